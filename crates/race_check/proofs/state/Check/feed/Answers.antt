use Rattle.std.proofs.Common.{◌<◌, refl, ◌∙◌, rules, arith, add-one}
use Rattle.race_check.specs.Checks.{check_of}
use Rattle.race_check.proofs.Feeding.{room_for_one, reached_on}
use Rattle.race_check.proofs.Taken.{read_taken, write_taken, other_taken}
use Rattle.race_check.proofs.state.Check.feed.Goals as goal

pub step-count-requires-clause-room : goal.step-count-requires-clause-room
step-count-requires-clause-room c = let t = c.args.self.now in room_for_one (check_of t) t.reached c.args.event c.requires.room

pub invariant_of-self-clause-reached : goal.invariant_of-self-clause-reached
invariant_of-self-clause-reached c =
    let i = c.in-Read in
    let word : i.word < 65536 = search rules in
    let station : i.station < 16 = search rules in
    reached_on _ _ c.args.event c.requires.known
    (read_taken c.args.self.now i.word c.index_mut-history.ensures.value word c.args.event c.before-before.result c.step-count.new.self (add-one _)
    c.before-before.ensures c.step-count.ensures.clocks c.step-count.ensures.count i.station i.value i.is (omega arith)
    (c.with_read-self.ensures ∙ rw (c.with_race-verdict.ensures, c.unordered_write-earlier.ensures) refl))
    c.args.self.now.reached

pub returns-in-Read : goal.returns-in-Read
returns-in-Read c =
    let i = c.in-Read in
    let word : i.word < 65536 = search rules in
    let station : i.station < 16 = search rules in
    read_taken c.args.self.now i.word c.index_mut-history.ensures.value word c.args.event c.before-before.result c.step-count.new.self (add-one _)
    c.before-before.ensures c.step-count.ensures.clocks c.step-count.ensures.count i.station i.value i.is (omega arith)
    (c.with_read-self.ensures ∙ rw (c.with_race-verdict.ensures, c.unordered_write-earlier.ensures) refl)

pub invariant_of-self-in-Write-clause-reached : goal.invariant_of-self-in-Write-clause-reached
invariant_of-self-in-Write-clause-reached c =
    let i = c.in-Write in
    let word : i.word < 65536 = search rules in
    reached_on _ _ c.args.event c.requires.known
    (write_taken c.args.self.now i.word c.index_mut-history-in-Write.ensures.value word c.args.event c.before-before.result c.step-count.new.self (add-one _)
    c.before-before.ensures c.step-count.ensures.clocks c.step-count.ensures.count i.station i.value i.is
    (c.with_race-self.ensures ∙ rw (c.later-earlier.ensures, c.unordered_write.ensures, c.unordered_read.ensures) refl))
    c.args.self.now.reached

pub returns-in-Write : goal.returns-in-Write
returns-in-Write c =
    let i = c.in-Write in
    let word : i.word < 65536 = search rules in
    write_taken c.args.self.now i.word c.index_mut-history-in-Write.ensures.value word c.args.event c.before-before.result c.step-count.new.self (add-one _)
    c.before-before.ensures c.step-count.ensures.clocks c.step-count.ensures.count i.station i.value i.is
    (c.with_race-self.ensures ∙ rw (c.later-earlier.ensures, c.unordered_write.ensures, c.unordered_read.ensures) refl)

pub invariant_of-self-in-Acquire-clause-reached : goal.invariant_of-self-in-Acquire-clause-reached
invariant_of-self-in-Acquire-clause-reached c =
    reached_on _ _ c.args.event c.requires.known
    (other_taken c.args.self.now c.args.event c.step-count.new.self (add-one _) c.step-count.ensures.clocks c.in-Acquire.is)
    c.args.self.now.reached

pub returns-in-Acquire : goal.returns-in-Acquire
returns-in-Acquire c =
    other_taken c.args.self.now c.args.event c.step-count.new.self (add-one _) c.step-count.ensures.clocks c.in-Acquire.is
