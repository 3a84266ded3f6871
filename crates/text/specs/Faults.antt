-- What a refusal says of the text that was read.
use Rattle.std.specs.Prelude.{◌≡◌, true, is_some, None, Option}
use Rattle.text.specs.declared.Fault.{Fault}
use Rattle.text.specs.declared.Fault.TheVariants.{Malformed, Memory}

-- a text is malformed just where it means nothing
abbrev pub Refuses : {X : Type 0} → Fault → Option X → Type 0
Refuses Malformed meaning = meaning ≡ None
Refuses Memory meaning = is_some meaning ≡ true
