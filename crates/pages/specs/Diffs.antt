-- The diff of a page's copy and twin, with how many words differ. Assumes nothing.
use Rattle.std.specs.Prelude.{ℕ}
use Rattle.model.specs.Cache.{changes_at, differing}
use Rattle.pages.specs.declared.PageDiff.{PageDiff}

abbrev pub diff_at : ℕ → (ℕ → ℕ) → (ℕ → ℕ) → PageDiff
diff_at p copy twin = record { changes = changes_at p copy twin; count = differing p copy twin }
