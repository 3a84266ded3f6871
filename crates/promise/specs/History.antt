-- What a home has done since it was fresh, told from all that came in. Assumes nothing.
use Rattle.std.specs.Prelude.{ℕ, cond, List, [], ◌∷◌, ◌++◌, None, Ok, Option, Result, ◌==◌}
use Rattle.std.specs.List.{fold, flat_map}
use Rattle.model.specs.declared.Holder.{Holder}
use Rattle.model.specs.declared.Message.{Message}
use Rattle.model.specs.declared.Message.TheVariants.{Diff, LockRequest, LockGranted, LockReleased}
use Rattle.basics.specs.declared.Refusal.{Refusal}
use Rattle.model.specs.Bytes.{parse}
use Rattle.model.specs.Home.{HomeState, receives, home_after, patched}

-- a message that was not refused, and what was sent for it
pub record Exchange : Type 0 where
  pub message : Message
  pub sent : List Message

abbrev pub exchange : Option Refusal → Result Message Refusal → List Message → List Exchange
exchange None (Ok m) ms = record { message = m; sent = ms } ∷ []
exchange why r ms = []

abbrev pub exchange_at : HomeState → List ℕ → List Exchange
exchange_at h bytes = exchange (receives h bytes).refusal (parse bytes) (receives h bytes).sent

-- all of them, in the order in which they happened; what came in has the latest first
unfoldable pub exchanges : List (List ℕ) → List Exchange
exchanges [] = []
exchanges (bytes ∷ earlier) = exchanges earlier ++ exchange_at (home_after earlier) bytes

-- a request for a lock, a release of it, a grant of it: by which station, with which number; any other message is none
abbrev pub on_lock : (l k s n : ℕ) → List Holder
on_lock l k s n = cond (k == l) (record { station = s; number = n } ∷ []) []

abbrev pub request_of : ℕ → Message → List Holder
request_of l (LockRequest s k n) = on_lock l k s n
request_of l m = []

abbrev pub release_of : ℕ → Message → List Holder
release_of l (LockReleased s k n) = on_lock l k s n
release_of l m = []

abbrev pub grant_of : ℕ → Message → List Holder
grant_of l (LockGranted s k n) = on_lock l k s n
grant_of l m = []

-- of one lock: the requests that were accepted, the releases that were taken, and the grants, each in order
abbrev pub requested : ℕ → List Exchange → List Holder
requested l es = flat_map (λ e. request_of l e.message) es

abbrev pub released : ℕ → List Exchange → List Holder
released l es = flat_map (λ e. release_of l e.message) es

abbrev pub granted : ℕ → List Exchange → List Holder
granted l es = flat_map (λ e. flat_map (grant_of l) e.sent) es

-- the number of a station's diff
abbrev pub diff_number : ℕ → Message → List ℕ
diff_number s (Diff i n p cs) = cond (i == s) (n ∷ []) []
diff_number s m = []

abbrev pub diff_numbers : ℕ → List Exchange → List ℕ
diff_numbers s es = flat_map (λ e. diff_number s e.message) es

-- the words with a message's diff put in, if it is one
abbrev pub put_in : Message → (ℕ → ℕ) → ℕ → ℕ
put_in (Diff s n p cs) words = patched p cs words
put_in m words = words

-- the words made of just these
abbrev pub built : (ℕ → ℕ) → List Exchange → ℕ → ℕ
built words es = fold (λ ws e. put_in e.message ws) words es
