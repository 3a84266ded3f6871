-- One step: what is kept of the history and the state if a message is answered so. A refusal keeps everything. Assumes nothing.
use Rattle.std.proofs.Common.{◌≡◌, Bool, true, false, cond, List, [], ◌∷◌, ◌++◌, Ok, refl}
use Rattle.std.proofs.lemmas.List.{append-nil}
use Rattle.model.specs.declared.Message.{Message}
use Rattle.basics.specs.declared.Refusal.{Refusal}
use Rattle.model.specs.Replies.{Reply, done, refused}
use Rattle.promise.specs.History.{Exchange, exchange}

-- P holds again once the message m has been answered by r
pub record Keeps {S : Type 0} (P : List Exchange → S → Type 0) (es : List Exchange) (m : Message) (r : Reply S) : Type 0 where
  pub holds : P (es ++ exchange r.refusal (Ok m) r.sent) r.after

module _ {S : Type 0} {P : List Exchange → S → Type 0} {es : List Exchange} {m : Message} where
  pub keeps_done : (ms : List Message) (s : S) → P (es ++ (record { message = m; sent = ms } ∷ [])) s → Keeps P es m (done ms s)
  keeps_done ms s p = record { holds = p }

  pub keeps_refused : (why : Refusal) (ms : List Message) (s : S) → P es s → Keeps P es m (refused why ms s)
  keeps_refused why ms s p = record { holds = rw (append-nil es) p }

  pub keeps_cond : (b : Bool) {x y : Reply S} → (b ≡ true → Keeps P es m x) → Keeps P es m y → Keeps P es m (cond b x y)
  keeps_cond true x y = x refl
  keeps_cond false x y = y
