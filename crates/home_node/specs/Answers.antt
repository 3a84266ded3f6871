-- An answer of the code as a reply of the rules. Assumes nothing.
use Rattle.std.specs.Prelude.{List, [], ◌∷◌, Some, None, Ok, Err, Option, Result}
use Rattle.basics.specs.declared.Refusal.{Refusal}
use Rattle.model.specs.declared.Message.{Message}
use Rattle.model.specs.Replies.{Reply}
use Rattle.home_node.specs.declared.answer.Refused.{Refused}
use Rattle.home_node.specs.declared.answer.Sent.{Sent}
use Rattle.home_node.specs.declared.answer.Sent.TheVariants.{Nothing, One, Two}

abbrev pub sent_of : Sent → List Message
sent_of Nothing = []
sent_of (One m) = m ∷ []
sent_of (Two m n) = m ∷ n ∷ []

-- why it is refused, if it is
abbrev pub refusal_of : Result Sent Refused → Option Refusal
refusal_of (Ok sent) = None
refusal_of (Err r) = Some r.why

-- what is sent, refused or not
abbrev pub told_of : Result Sent Refused → List Message
told_of (Ok sent) = sent_of sent
told_of (Err r) = sent_of r.sent

-- with the state that it leaves
abbrev pub reply_of : {S : Type 0} → Result Sent Refused → S → Reply S
reply_of answer s = record { refusal = refusal_of answer; sent = told_of answer; after = s }
