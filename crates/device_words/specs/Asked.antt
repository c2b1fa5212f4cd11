-- What is found of what a request asks for. Assumes nothing: these are definitions.
use Rattle.std.specs.Prelude.{false, Option, Some, None, ◌≡◌}
use Rattle.device_words.specs.Request.{type_number}
use Rattle.device_words.specs.Promises.{answerable, RunOf}
use Rattle.device_words.specs.declared.words.Sizes.{Sizes}
use Rattle.device_words.specs.declared.request.Request.{Request}
use Rattle.device_words.specs.declared.answer.Asked.{Asked}

-- its kind and its blocks, or that it may ask for nothing
abbrev pub AsksFor : Sizes → Request → Option Asked → Type 0
AsksFor s r None = answerable s r ≡ false
AsksFor s r (Some a) = (r.kind ≡ type_number a.kind) × RunOf s r a.run.first.0 a.run.count
