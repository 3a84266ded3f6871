use Rattle.std.proofs.Common.{◌≡◌, ◌++◌, drop, vec_items}
use Rattle.model.specs.Bytes.{word_bytes}
use Rattle.wire.proofs.write.push_words.Given as goal

abbrev pub invariant-loop-word : goal.invariant-loop-word
invariant-loop-word l = vec_items l.out ++ word_bytes (drop l.word-index l.words) ≡ vec_items l.initial.out ++ word_bytes l.words
