-- A page's part of lent words: what it holds, and the words after it was written.
use Rattle.std.proofs.Common.{◌≡◌, ℕ, ◌+◌, ◌-◌, ◌*◌, ◌/◌, ◌%◌, ◌<◌, ◌≤◌, cond, true, List, length, get_or, take, drop, None, Ok, Err, Option, unwrap_or, sym, ap, ◌∙◌, inl, inr, arith, rules}
use mathlib.Core.Path.{fun_ext}
use Rattle.std.specs.declared.ops.Range.{Range}
use Rattle.std.proofs.lemmas.List.FromFn.{length-map-range_with_len, get_or-map-range_with_len}
use Rattle.std.proofs.lemmas.List.{places, same_lists, length-take, length-drop}
use borrow.Rule.Slice.PartMut.{put_mid}
use Rattle.std.proofs.lemmas.Bool.{cases_lt, cases_Bool}
use Rattle.std.proofs.lemmas.Bool.Decides.{eqb_tells, nat_tests}
use Rattle.basics.specs.declared.Refusal.TheVariants.{Malformed}
use Rattle.model.specs.Cache.{change, changes_at, on_page, placed}
use Rattle.model.specs.Home.{page_at, patched}
use Rattle.pages.specs.Memory.{memory, has_page}
use Rattle.pages.proofs.Ranges.{same_ranges}

-- a: where the part starts; n: how many words it has
pub record IsPart (p a n : ℕ) (ws : List ℕ) : Type 0 where
  pub reached : has_page p ws ≡ true
  pub starts : a ≡ 64 * p
  pub size : n ≡ 64
  pub inside : a + 64 ≤ length ws

abbrev whole : ℕ → Range ℕ
whole p = record { start = 64 * p; end = 64 * p + 64 }

-- the part that was given is the page
pub found : {p : ℕ} {ws : List ℕ} {part : Range ℕ} → Ok part ≡ cond (has_page p ws) (Ok (whole p)) (Err Malformed) → IsPart p part.start (part.end - part.start) ws
found {p} {ws} {part} e =
    elim (cases_Bool (has_page p ws)) [
      | inl t ↦ is t (let same : Ok part ≡ Ok (whole p) = rw t at e in cc)
      | inr f ↦ (let none : Ok part ≡ Err Malformed = rw f at e in cc)
    ]
  where
    is : has_page p ws ≡ true → part ≡ whole p → IsPart p part.start (part.end - part.start) ws
    is t same =
        let start : part.start ≡ 64 * p = ap (λ (r : Range ℕ). r.start) same in
        let end : part.end ≡ 64 * p + 64 = ap (λ (r : Range ℕ). r.end) same in
        record { reached = t; starts = start; size = omega arith; inside = grind (arith, nat_tests) }

-- the words of a page are its part of the words
module _ {p a n : ℕ} {ws : List ℕ} (here : IsPart p a n ws) where
  pub page_part : page_at p (memory ws) ≡ take n (drop a ws)
  unfolding page_at
  page_part =
      same_lists _ _ (length-map-range_with_len (memory ws) (64 * p) 64 ∙ simp (length-take, length-drop) (omega arith))
      (λ k d i.
      let below : k < 64 = omega (arith, length-map-range_with_len (memory ws) (64 * p) 64) in
      get_or-map-range_with_len (memory ws) (64 * p) 64 k (a + k) d below (omega arith) ∙ search (rules, places))

-- a word of a page's part is a word of the page, also past the end of the words
pub part_word : (ws : List ℕ) (a n k : ℕ) → n ≡ 64 → k < 64 → get_or (take n (drop a ws)) k 0 ≡ memory ws (a + k)
part_word ws a n k size h = search (rules, places)

-- the words after a page's part was written: in the page what was written, all others as they were
module _ {p a n : ℕ} {ws : List ℕ} (here : IsPart p a n ws) (part : List ℕ) (as_long : length part ≡ length (take n (drop a ws))) where
  long : length part ≡ 64
  long = as_long ∙ simp (length-take, length-drop) (omega arith)

  -- a word of the page
  within : (k : ℕ) → k < 64 → memory (put_mid a n ws part) (a + k) ≡ get_or part k 0
  within k h = search (rules, places)

  -- a word before it
  below : (w : ℕ) → w < a → memory (put_mid a n ws part) w ≡ memory ws w
  below w h = search (rules, places)

  -- a word behind it
  above : (w : ℕ) → a + 64 ≤ w → memory (put_mid a n ws part) w ≡ memory ws w
  above w h = search (rules, places)

  -- what is said of each place of the part is said of each word of the page
  pub written_page : (f : ℕ → ℕ) → ((k : ℕ) → k < 64 → get_or part k 0 ≡ f (a + k)) → memory (put_mid a n ws part) ≡ on_page p f (memory ws)
  written_page f new = fun_ext at_word
    where
      at_word : (w : ℕ) → memory (put_mid a n ws part) w ≡ on_page p f (memory ws) w
      at_word w =
          elim (eqb_tells (w / 64) p) [
            | inl t ↦ rw t.0 (let place : a + w % 64 ≡ w = omega arith in rw place at (within (w % 64) (omega arith) ∙ new (w % 64) (omega arith)))
            | inr t ↦ rw t.0 (elim (cases_lt w a) [ inl h ↦ below w h | inr h ↦ above w (omega (arith, t.1)) ])
          ]

  pub filled_part : memory (put_mid a n ws part) ≡ on_page p (placed part) (memory ws)
  filled_part =
      written_page (placed part)
      (λ k h. let place : (a + k) % 64 ≡ k = omega arith in rw place)

  -- changes were put in
  pub patched_part :
      (changes : List (Option ℕ)) → ((k : ℕ) → k < 64 → get_or part k 0 ≡ unwrap_or (get_or changes k None) (get_or (take n (drop a ws)) k 0)) → memory (put_mid a n ws part) ≡ patched p changes (memory ws)
  patched_part changes new =
      written_page (λ w. unwrap_or (get_or changes (w % 64) None) (memory ws w))
      (λ k h. let place : (a + k) % 64 ≡ k = omega arith in new k h ∙ rw (place, part_word ws a n k here.size h))

-- a diff of two parts is the diff of the page, also past the end of the words
pub cut_changes :
    (cs ts : List ℕ) (p a n b m : ℕ) → a ≡ 64 * p → n ≡ 64 → b ≡ 64 * p → m ≡ 64 →
    changes_at 0 (memory (take n (drop a cs))) (memory (take m (drop b ts))) ≡ changes_at p (memory cs) (memory ts)
unfolding changes_at
cut_changes cs ts p a n b m starts size begins sized =
    same_ranges (change (memory (take n (drop a cs))) (memory (take m (drop b ts)))) (change (memory cs) (memory ts)) (64 * 0) (64 * p) 64
    (λ k below.
    let here : 64 * 0 + k ≡ k = omega arith in
    rw (here, part_word cs a n k size below, part_word ts b m k sized below, starts, begins))

-- copy and twin of one page
module _ {p a n b m : ℕ} {cs ts : List ℕ} (copy : IsPart p a n cs) (twin : IsPart p b m ts) where
  same_start : b ≡ a
  same_start = twin.starts ∙ sym copy.starts

  -- so is that of two parts that lie inside
  pub part_changes : changes_at 0 (memory (take n (drop a cs))) (memory (take m (drop b ts))) ≡ changes_at p (memory cs) (memory ts)
  part_changes = cut_changes cs ts p a n b m copy.starts copy.size twin.starts twin.size

  -- the twin's part became the copy's
  pub flushed_part : (part : List ℕ) → length part ≡ length (take m (drop b ts)) → part ≡ take n (drop a cs) → memory (put_mid b m ts part) ≡ on_page p (memory cs) (memory ts)
  flushed_part part as_long is =
      written_page twin part as_long (memory cs)
      (λ k h. ap (λ words. get_or words k 0) is ∙ part_word cs a n k copy.size h ∙ ap (λ i. memory cs (i + k)) (sym same_start))
