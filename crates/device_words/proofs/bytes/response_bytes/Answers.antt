-- `device_words::bytes::response_bytes` meets its contract. Assumes nothing.
use Rattle.device_words.specs.Bytes.{le, response_bytes}
use Rattle.device_words.proofs.bytes.response_bytes.Goals as goal

pub returns : goal.returns
unfolding response_bytes le
returns c = rw (c.to_le_bytes.ensures, c.to_le_bytes-2.ensures)
