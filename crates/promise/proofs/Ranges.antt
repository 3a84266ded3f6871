-- Every message that is read names a station, a page and a lock that are there. Assumes nothing.
use Rattle.std.proofs.Common.{◌≡◌, ℕ, ◌<◌, Bool, true, false, cond, List, Ok, Result, sym, arith}
use Rattle.std.proofs.lemmas.Bool.Decides.{nat_tests}
use Rattle.model.specs.declared.Message.{Message}
use Rattle.basics.specs.declared.Refusal.{Refusal}
use Rattle.basics.specs.Numbers.{u8_at, u32_at}
use Rattle.model.specs.Bytes.{parse, read_page_request, read_page_reply, read_diff, read_diff_applied, read_lock}
use Rattle.promise.specs.Ranges.{Known}
use Rattle.promise.proofs.IfRead.{IfRead, either_read}

-- each reader alone, of whatever bytes: the station and the page of a page request
page_request : (bs : List ℕ) → IfRead Known (read_page_request bs)
page_request bs = record { holds = grind (arith, nat_tests) }

-- those of a page reply
page_reply : (bs : List ℕ) → IfRead Known (read_page_reply bs)
page_reply bs = record { holds = grind (arith, nat_tests) }

-- those of a diff
diff : (bs : List ℕ) → IfRead Known (read_diff bs)
diff bs = record { holds = grind (arith, nat_tests) }

-- the station of the answer to a diff
diff_applied : (bs : List ℕ) → IfRead Known (read_diff_applied bs)
diff_applied bs = record { holds = grind (arith, nat_tests) }

-- the station and the lock of a message about a lock
reads_on_lock : (kind : ℕ → ℕ → ℕ → Message) → ((s l n : ℕ) → s < 16 → l < 64 → Known (kind s l n)) → (bs : List ℕ) → IfRead Known (read_lock kind bs)
reads_on_lock kind known bs = record { holds = let k = known (u8_at bs 1) (u8_at bs 2) (u32_at bs 3) in grind (arith, nat_tests) }

-- at this P, since the search finds no P by itself
either : (b : Bool) {x y : Result Message Refusal} → (b ≡ true → IfRead Known x) → (b ≡ false → IfRead Known y) → IfRead Known (cond b x y)
either b x y = either_read b x y

pub parse_known : (bytes : List ℕ) → IfRead Known (parse bytes)
parse_known bytes = search (either, arith, nat_tests) depth 12

pub known_read : (bytes : List ℕ) (m : Message) → Ok m ≡ parse bytes → Known m
known_read bytes m e = (rw (sym e) at (parse_known bytes)).holds
