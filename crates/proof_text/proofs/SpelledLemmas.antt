-- The steps that are compared while a proof is verified follow the walk over its items.
use Rattle.std.proofs.Common.{◌≡◌, ℕ, zero, suc, ◌-◌, ◌<◌, ◌≤◌, List, [], ◌∷◌, ◌++◌, length, take, get_or, slice_get, Some, IsTrue, ◌⊎◌, inl, inr, refl, sym, ◌∙◌, ap, subst, arith}
use Rattle.std.proofs.Math.Seq.{take-suc}
use Rattle.std.proofs.lemmas.Bool.{cases_lt}
use Rattle.std.proofs.lemmas.List.{append-nil, length-map, length-take-le, take_all}
use Rattle.std.proofs.lemmas.Option.{slice_get-get_or, slice_get_within}
use Rattle.entries.proofs.BufferPlaceLemmas.{take-get}
use Rattle.frame.proofs.BlockWalkLemmas.{take-one}
use Rattle.frame.specs.AtPosition.{HasLabelsOnce}
use Rattle.frame.specs.Parts.{Numbered}
use Rattle.mm_lex.specs.Alphabet.{Name}
use Rattle.mm_read.specs.Statements.{Database}
use Rattle.proof_code.specs.declared.item.Item.{Item}
use Rattle.proof_code.specs.declared.item.Item.TheVariants.{Cite, Mark, Recall}
use Rattle.steps.proofs.DraftRowLemmas.{step-at}
use Rattle.steps.proofs.SoundLemmas.{last_place-last, nothing-sound, records-snoc, records-sound}
use Rattle.steps.proofs.UnfoldLemmas.{unfolds}
use Rattle.steps.specs.Rows.{Row, no_row, steps_of}
use Rattle.steps.specs.StepTable.{IsPlaced, IsStepOf, RecordsItems, Step, is_appended, of_assertion, of_hypothesis, progress, was_there}
use Rattle.steps.specs.Unfolded.{last_unfolded}
use Rattle.subst.specs.declared.symbol_range.SymbolRange.{SymbolRange}
use Rattle.verify.specs.Right.{Derives, IsRight}
use Rattle.verify.specs.Walk.{CitesAssertion, CitesHypothesis, Hears, IsMark, IsRecall, Walk, walk_start}
use Rattle.proof_text.proofs.StepsLemmas.{step-same}
use Rattle.proof_text.specs.Spelled.{AreDistinct, AreSpelled, CitesNext, CitesStep, IsWhole, progress_of}
use Rattle.proof_text.specs.declared.spelled_steps.SpelledSteps.{SpelledSteps}

abbrev step_with : ℕ → List ℕ → Step
step_with position taken = record { position = position; taken = taken }

pub step-there : (rows : List Row) (k position : ℕ) (taken : List ℕ) → k < length rows → (get_or rows k no_row).step.position ≡ position → (get_or rows k no_row).step.taken ≡ taken → slice_get (steps_of rows) k ≡ Some (step_with position taken)
step-there rows k position taken less p q = step-at rows k (get_or rows k no_row) (slice_get-get_or rows k no_row less) ∙ ap Some (step-same (get_or rows k no_row).step (step_with position taken) p q)

get-taken : (n k : ℕ) (xs : List Step) (x : Step) → k < n → slice_get xs k ≡ Some x → slice_get (take n xs) k ≡ Some x
get-taken zero k xs x less h = absurd (omega (arith, less))
get-taken (suc n) k [] x less h = let e = h in cc
get-taken (suc n) zero (y ∷ xs) x less h = h
get-taken (suc n) (suc k) (y ∷ xs) x less h = get-taken n k xs x (omega (arith, less)) h

-- ---- one item

module _ (old new : SpelledSteps) (position count : ℕ) (next : CitesNext old new position count) (distinct : AreDistinct (steps_of new.table.now)) (same : IsTrue new.are_same) where
  abbrev cites : CitesStep old new position count
  cites = next.1 same

  abbrev steps : List Step
  steps = steps_of old.table.now

  distinct-old : AreDistinct steps
  distinct-old = subst AreDistinct (ap steps_of next.0) distinct

  moved : take new.count (steps_of new.table.now) ≡ take new.count steps
  moved = ap (λ r. take new.count (steps_of r)) next.0

  placed : IsPlaced (take old.count steps) (step_with position cites.taken) (take new.count (steps_of new.table.now)) cites.place
  placed = by (cases_lt cites.place old.count)
    where
      by : (cites.place < old.count) ⊎ (old.count ≤ cites.place) → IsPlaced (take old.count steps) (step_with position cites.taken) (take new.count (steps_of new.table.now)) cites.place
      by (inl less) = was_there (get-taken old.count cites.place steps (step_with position cites.taken) less cites.stands) (moved ∙ ap (λ n. take n steps) (cites.kept less))
      by (inr from) =
          let is : cites.place ≡ old.count = omega (arith, from, cites.early) in
          let within = slice_get_within steps cites.place (step_with position cites.taken) cites.stands in
          let more : new.count ≡ suc old.count = omega (arith, is, cites.counted.0, cites.counted.1) in
          is_appended
          (λ k h. let t = take-get old.count k steps (step_with position cites.taken) h in let e = distinct-old k cites.place (step_with position cites.taken) t.1 cites.stands in absurd (omega (arith, t.0, e, is)))
          (is ∙ sym (length-take-le old.count steps (omega (arith, within, is))))
          (moved ∙ (ap (λ n. take n steps) more ∙ take-one steps old.count (step_with position cites.taken) (subst (λ n. slice_get steps n ≡ Some (step_with position cites.taken)) is cites.stands)))

  cited : (w : Walk) (item : Item) (label : Name) → item ≡ Cite label → IsStepOf w.statements w.at label old.stack.items cites.below (step_with position cites.taken) → AreSpelled w old
      → RecordsItems w.statements w.at (progress [] [] []) (w.items ++ item ∷ []) (progress_of new)
  cited w item label is makes p =
      subst (λ i. RecordsItems w.statements w.at (progress [] [] []) (w.items ++ i ∷ []) (progress_of new)) (sym is)
      (records-snoc w.statements w.at w.items (Cite label) (progress [] [] []) (progress_of old) (progress_of new) (p distinct-old cites.was_same)
      (cites.below, step_with position cites.taken, cites.place, makes, placed, cites.stack, cites.saved))

none-taken : (xs : List ℕ) → length xs ≡ 0 → xs ≡ []
none-taken [] h = refl
none-taken (x ∷ xs) h = absurd (omega (arith, h))

pub hears-hypothesis : (old new : SpelledSteps) (position : ℕ) (range : SymbolRange) → CitesNext old new position 0 → Hears AreSpelled (CitesHypothesis position range) old new
hears-hypothesis old new position range next w item held done told p distinct same =
    let c = next.1 same in
    let none = none-taken c.taken c.many in
    cited old new position 0 next distinct same w item told.label told.cites
    (of_hypothesis told.entry.0 told.entry.1 told.entry.2 none (c.whole ∙ (ap (λ t. c.below ++ t) none ∙ append-nil c.below))) p

pub hears-assertion : (old new : SpelledSteps) (position count : ℕ) (range : SymbolRange) → CitesNext old new position count → Hears AreSpelled (CitesAssertion position count range) old new
hears-assertion old new position count range next w item held done told p distinct same =
    let c = next.1 same in
    cited old new position count next distinct same w item told.label told.cites
    (of_assertion told.entry.0 told.entry.1 told.entry.2 (c.many ∙ told.taken told.entry.0 told.entry.1.stands) c.whole) p

pub hears-mark : (old : SpelledSteps) (new : SpelledSteps) (k default : ℕ) → 0 < length old.stack.items → k ≡ get_or old.stack.items (length old.stack.items - 1) default
    → progress_of new ≡ progress (take old.count (steps_of old.table.now)) old.stack.items (old.saved.items ++ k ∷ []) → new.table.now ≡ old.table.now → new.are_same ≡ old.are_same → Hears AreSpelled IsMark old new
hears-mark old new k default some last goes table kept w item held done told p distinct same =
    let xs = old.stack.items in
    let n = length xs - 1 in
    let split : xs ≡ take n xs ++ k ∷ [] =
    sym (take_all (suc n) xs (omega arith)) ∙ (take-suc xs n default (omega (arith, some)) ∙ ap (λ x. take n xs ++ x ∷ []) (sym last)) in
    subst (λ i. RecordsItems w.statements w.at (progress [] [] []) (w.items ++ i ∷ []) (progress_of new)) (sym told)
    (records-snoc w.statements w.at w.items Mark (progress [] [] []) (progress_of old) (progress_of new) (p (subst AreDistinct (ap steps_of table) distinct) (sym kept ∙ same)) (take n xs, k, split, goes))

pub hears-recall : (old new : SpelledSteps) (index k default : ℕ) → index < length old.saved.items → k ≡ get_or old.saved.items index default
    → progress_of new ≡ progress (take old.count (steps_of old.table.now)) (old.stack.items ++ k ∷ []) old.saved.items → new.table.now ≡ old.table.now → new.are_same ≡ old.are_same → Hears AreSpelled (IsRecall index) old new
hears-recall old new index k default there is goes table kept w item held done told p distinct same =
    subst (λ i. RecordsItems w.statements w.at (progress [] [] []) (w.items ++ i ∷ []) (progress_of new)) (sym told)
    (records-snoc w.statements w.at w.items (Recall (suc index)) (progress [] [] []) (progress_of old) (progress_of new) (p (subst AreDistinct (ap steps_of table) distinct) (sym kept ∙ same))
    (k, slice_get-get_or old.saved.items index default there ∙ ap Some (sym is), goes))

-- ---- the whole proof

pub spelled-start : (f : Numbered) (at : ℕ) (s : SpelledSteps) → s.count ≡ 0 → s.stack.items ≡ [] → s.saved.items ≡ [] → AreSpelled (walk_start f at) s
spelled-start f at s none stack saved distinct same =
    ap (λ xs. progress [] xs []) (sym stack) ∙ (ap (λ xs. progress [] s.stack.items xs) (sym saved) ∙ ap (λ n. progress (take n (steps_of s.table.now)) s.stack.items s.saved.items) (sym none))

only-place : (xs : List ℕ) → length xs ≡ 1 → (n : ℕ) × (xs ≡ n ∷ [])
only-place [] h = absurd (omega (arith, h))
only-place (n ∷ []) h = (n, refl)
only-place (n ∷ m ∷ xs) h = absurd (omega (arith, h))

pub spells : (S : Database) (at : ℕ) → HasLabelsOnce S → (items : List Item) (s : SpelledSteps) (steps : List Step) → steps ≡ steps_of s.table.now → AreDistinct steps → IsRight S at items
    → (AreDistinct (steps_of s.table.now) → IsTrue s.are_same → RecordsItems S at (progress [] [] []) items (progress_of s)) → IsWhole s → Derives S at items (last_unfolded S steps)
spells S at once items s all_steps is distinct right heard whole =
    let steps = steps_of s.table.now in
    let recorded = heard (subst AreDistinct is distinct) whole.0 in
    let one = only-place s.stack.items whole.2 in
    let all : take s.count steps ≡ steps = take_all s.count steps (let l = length-map s.table.now (λ r. r.step) in let c = whole.1 in omega (arith, l, c)) in
    let last = last_place-last (progress_of s) one.0 (records-sound S at items (progress [] [] []) (progress_of s) nothing-sound recorded) one.1 in
    subst (λ v. Derives S at items (last_unfolded S v)) (sym is)
    (unfolds S at once items steps right (record { end = progress_of s; last_place = one.0; recorded = recorded; same = all; one = one.1; last = ap length (sym all) ∙ last }))
