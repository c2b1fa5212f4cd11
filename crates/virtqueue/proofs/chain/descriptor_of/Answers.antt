-- `virtqueue::chain::descriptor_of` meets its contract. Assumes nothing.
use Rattle.std.proofs.Common.{◌≡◌, ℕ, get_or, ◌∙◌}
use Rattle.device_words.proofs.ByteLaws.{from_le}
use Rattle.guest_view.specs.Guest.{number_at}
use Rattle.virtqueue.specs.Chain.{descriptor_at}
use Rattle.virtqueue.proofs.ChainLaws.{two_read, four_read}
use Rattle.virtqueue.proofs.chain.descriptor_of.Goals as goal

pub returns : goal.returns
unfolding descriptor_at
returns c = let b = c.args.bytes in
    let f = λ (i : ℕ). get_or b i 0 in
    let addr : c.from_le_bytes.result ≡ number_at (λ a. a) b 0 8 = c.from_le_bytes.ensures ∙ from_le b in
    let length : c.from_le_bytes-2.result ≡ number_at (λ a. a) b 8 4 = c.from_le_bytes-2.ensures ∙ four_read f 8 in
    let flags : c.from_le_bytes-3.result ≡ number_at (λ a. a) b 12 2 = c.from_le_bytes-3.ensures ∙ two_read f 12 in
    let next : c.from_le_bytes-4.result ≡ number_at (λ a. a) b 14 2 = c.from_le_bytes-4.ensures ∙ two_read f 14 in
    simp (addr, length, flags, next)
