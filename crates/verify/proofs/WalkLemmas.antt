-- The counts of results after an item, and listeners that follow a walk.
use Rattle.verify.proofs.Words.{◌≡◌, ℕ, suc, ◌+◌, ◌-◌, ◌<◌, true, false, List, [], ◌∷◌, length, Some, map, slice_get_within, take, take_all, item_of, items_of, ◌≤◌, sym, ◌∙◌, ap, subst, arith, length-append, length-map, Name, Stmt, Expr, Database, stmt_at, before, hypotheses, is_assertion, Item, Cite, Mark, Recall, decode, HasLabelsOnce, Results, State, Cites, of_hypothesis, of_assertion, premises, RunsItem, with_result, named, AreNamed, HasLegalProperties, Assertion, IsEntry, IsKept, HeldResults, Walk, walk, walk_start, IsDone, IsHeard, Hears, Numbered, SymbolRange, CitesHypothesis, CitesAssertion, IsLastRange, RunsItemByNumber, refl, some-same}
use Rattle.verify.specs.declared.label_table.LabelEntry.TheVariants.{Hypothesis}
use Rattle.verify.proofs.Decide.{length-premises, not_both}

-- ---- counts

-- a result was pushed onto the results below
pushed : (names : List Name) (old new : Results ℕ) (b : List Expr) (e : Expr) → named names new ≡ with_result (named names old) b e → (length new.stack ≡ suc (length b)) × (length new.saved ≡ length old.saved)
pushed names old new b e same =
    let s = ap (λ (st : State). length st.stack) same in
    let t = ap (λ (st : State). length st.saved) same in (
      omega (arith, s, length-map new.stack (decode names), length-append b (e ∷ [])),
      omega (arith, t, length-map new.saved (decode names), length-map old.saved (decode names)),
    )

module _ (S : Database) (at : ℕ) (names : List Name) (once : HasLabelsOnce S) (label : Name) (old new : Results ℕ) (run : RunsItem S at (named names old) (Cite label) (named names new)) where
  pub cited-saved : length new.saved ≡ length old.saved
  cited-saved = (pushed names old new run.0 run.1 run.3).1

  -- a hypothesis takes no results
  pub hypothesis-pushes : (i : ℕ) → IsEntry S at label (Hypothesis i) → length new.stack ≡ suc (length old.stack)
  hypothesis-pushes i is = by run.0 run.1 run.2 (pushed names old new run.0 run.1 run.3).0
    where
      by : (b : List Expr) (e : Expr) → Cites S at label (map (decode names) old.stack) b e → length new.stack ≡ suc (length b) → length new.stack ≡ suc (length old.stack)
      by b e (of_hypothesis j t carries active same whole) count = let w = ap length whole in omega (arith, count, w, length-map old.stack (decode names))
      by b e (of_assertion a t σ carries fits whole gives) count =
          let same : t ≡ is.0 = some-same carries.stands (ap (stmt_at S) (once a i t is.0 label carries is.1) ∙ is.1.stands) in
          absurd (not_both is.0 is.2.kind (ap is_assertion (sym same) ∙ fits.assertion))

  -- an assertion takes as many results as it has mandatory hypotheses
  pub assertion-pops : (a : ℕ) → IsEntry S at label (Assertion a) → (s : Stmt) → stmt_at S a ≡ Some s → length (hypotheses (before S a) s) + length new.stack ≡ suc (length old.stack)
  assertion-pops a is s stands = by run.0 run.1 run.2 (pushed names old new run.0 run.1 run.3).0
    where
      by : (b : List Expr) (e : Expr) → Cites S at label (map (decode names) old.stack) b e → length new.stack ≡ suc (length b) → length (hypotheses (before S a) s) + length new.stack ≡ suc (length old.stack)
      by b e (of_hypothesis j t carries active same whole) count =
          let one : t ≡ is.0 = some-same carries.stands (ap (stmt_at S) (once j a t is.0 label carries is.1) ∙ is.1.stands) in
          absurd (not_both t active.kind (ap is_assertion one ∙ is.2.assertion))
      by b e (of_assertion c t σ carries fits whole gives) count =
          let i : c ≡ a = once c a t is.0 label carries is.1 in
          let same : t ≡ s = some-same carries.stands (ap (stmt_at S) i ∙ stands) in
          let h : length (premises S c t σ) ≡ length (hypotheses (before S a) s) = length-premises S c t σ ∙ (ap (λ k. length (hypotheses (before S k) t)) i ∙ ap (λ u. length (hypotheses (before S a) u)) same) in
          let w = ap length whole in
          omega (arith, count, w, h, length-append b (premises S c t σ), length-map old.stack (decode names))

  pub cited-some : 0 < length new.stack
  cited-some = let n = (pushed names old new run.0 run.1 run.3).0 in omega (arith, n)

  pub assertion-low : (a : ℕ) → IsEntry S at label (Assertion a) → length new.stack - 1 ≤ length old.stack
  assertion-low a is = let p = assertion-pops a is is.0 is.1.stands in omega (arith, p)

  -- the number of results that an assertion takes, by the lengths of the stack
  pub assertion-count : (a : ℕ) → IsEntry S at label (Assertion a) → (count : ℕ) → count ≡ length old.stack - (length new.stack - 1) → (s : Stmt) → stmt_at S a ≡ Some s
      → (count ≡ length (hypotheses (before S a) s)) × (count + length new.stack ≡ suc (length old.stack))
  assertion-count a is count counted s stands =
      let p = assertion-pops a is s stands in
      let some = cited-some in
      (omega (arith, counted, p, some), omega (arith, counted, p, some))

-- ---- an item that was done

module _ (w : Walk) (item : Item) (held : HeldResults) (done : IsDone w item held) where
  pub run-as : (i : Item) → item ≡ i → RunsItem w.statements w.at (named w.names w.results) i (named w.names held.results)
  run-as i same = subst (λ j. RunsItem w.statements w.at (named w.names w.results) j (named w.names held.results)) same done.runs

  pub cite-saved : (label : Name) → item ≡ Cite label → length held.results.saved ≡ length w.results.saved
  cite-saved label same = cited-saved w.statements w.at w.names done.legal.once label w.results held.results (run-as (Cite label) same)

  pub mark-counts : item ≡ Mark → (0 < length w.results.stack) × (length held.results.stack ≡ length w.results.stack) × (length held.results.saved ≡ suc (length w.results.saved))
  mark-counts is =
      let run = run-as Mark is in
      let whole = ap length run.2 in
      let s = ap (λ (st : State). length st.stack) run.3 in
      let t = ap (λ (st : State). length st.saved) run.3 in
      let a = length-map w.results.stack (decode w.names) in
      let b = length-map held.results.stack (decode w.names) in
      let c = length-map w.results.saved (decode w.names) in
      let d = length-map held.results.saved (decode w.names) in (
        omega (arith, whole, a, length-append run.0 (run.1 ∷ [])),
        omega (arith, s, a, b),
        omega (arith, t, c, d, length-append (map (decode w.names) w.results.saved) (run.1 ∷ [])),
      )

  pub recall-counts : (k : ℕ) → item ≡ Recall (suc k) → (k < length w.results.saved) × (length held.results.stack ≡ suc (length w.results.stack)) × (length held.results.saved ≡ length w.results.saved)
  recall-counts k is =
      let run = run-as (Recall (suc k)) is in
      let there = slice_get_within (map (decode w.names) w.results.saved) k run.0 run.1 in
      let c = length-map w.results.saved (decode w.names) in
      let p = pushed w.names w.results held.results (map (decode w.names) w.results.stack) run.0 run.2 in
      let n = p.0 in
      (omega (arith, there, c), omega (arith, n, length-map w.results.stack (decode w.names)), p.1)

-- ---- listeners

pub walk-same : (f : Numbered) (at : ℕ) (items : List Item) (held held' : HeldResults) → held'.results ≡ held.results → held'.symbols ≡ held.symbols → walk f at items held' ≡ walk f at items held
walk-same f at items held held' r s =
    let w : Results ℕ → List ℕ → Walk = λ a b. record { statements = f.statements; at = at; names = f.names; items = items; results = a; symbols = b } in
    ap (λ a. w a held'.symbols) r ∙ ap (w held.results) s

-- the walk before the first item
pub walk-begins : (f : Numbered) (at : ℕ) (held : HeldResults) → held.results ≡ (let r : Results ℕ = record { stack = []; saved = []; weight = 0 } in r) → held.symbols ≡ [] → walk f at [] held ≡ walk_start f at
walk-begins f at held r s = walk-same f at [] (let h : HeldResults = record { results = record { stack = []; saved = []; weight = 0 }; images = held.images; symbols = [] } in h) held r s

-- all items, and more than there are
pub all-items : (labels : List Name) (numbers : List ℕ) (i n : ℕ) → length numbers ≤ i → n ≡ length numbers → map (item_of labels) (take i numbers) ≡ take n (items_of labels numbers)
all-items labels numbers i n over is =
    let l = length-map numbers (item_of labels) in
    ap (map (item_of labels)) (take_all i numbers over) ∙ sym (take_all n (items_of labels numbers) (omega (arith, is, l)))

module _ {L : Type 0} (follows : Walk → L → Type 0) (f : Numbered) (at : ℕ) where
  -- an item that was not done tells nothing
  pub heard-not : (items : List Item) (item : Item) (held held' : HeldResults) (old new : L) → IsHeard false follows f at item held held' old new → IsKept false held held' → follows (walk f at items held) old → follows (walk f at items held') new
  heard-not items item held held' old new same kept p = subst (follows (walk f at items held')) (sym same) (subst (λ w. follows w old) (sym (walk-same f at items held held' kept.0 kept.1)) p)

  -- what a listener was told of an item that was done
  pub told : (item : Item) (held held' : HeldResults) (old new : L) (is_told : Walk → Item → HeldResults → Type 0) → Hears follows is_told old new → HasLegalProperties f.statements f.names → RunsItem f.statements at (named f.names held.results) item (named f.names held'.results)
      → AreNamed f.names held'.results → IsKept true held held' → ((items : List Item) → is_told (walk f at items held) item held') → IsHeard true follows f at item held held' old new
  told item held held' old new is_told hears legal runs are_named kept is = λ items.
      hears (walk f at items held) item held' (record { legal = legal; runs = runs; are_named = are_named; more = kept.0; appended = kept.1 }) (is items)

  -- a citation of a hypothesis, and of an assertion, that were done
  pub hypothesis-heard : (i : ℕ) (range : SymbolRange) (held held' : HeldResults) (old new : L) → Hears follows (CitesHypothesis i range) old new → HasLegalProperties f.statements f.names
      → (label : Name) → IsEntry f.statements at label (Hypothesis i) → RunsItemByNumber true f.statements at f.names (Cite label) held.results held'.results → IsKept true held held' → IsLastRange held' range → IsHeard true follows f at (Cite label) held held' old new
  hypothesis-heard i range held held' old new hears legal label is goes kept last =
      told (Cite label) held held' old new (CitesHypothesis i range) hears legal goes.0 goes.1 kept
      (λ items. record { label = label; cites = refl; entry = is; pushes = hypothesis-pushes f.statements at f.names legal.once label held.results held'.results goes.0 i is; range_is = last })

  pub assertion-heard : (a count : ℕ) (range : SymbolRange) (held held' : HeldResults) (old new : L) → Hears follows (CitesAssertion a count range) old new → HasLegalProperties f.statements f.names
      → (label : Name) → IsEntry f.statements at label (Assertion a) → RunsItemByNumber true f.statements at f.names (Cite label) held.results held'.results → IsKept true held held' → IsLastRange held' range
      → count ≡ length held.results.stack - (length held'.results.stack - 1) → IsHeard true follows f at (Cite label) held held' old new
  assertion-heard a count range held held' old new hears legal label is goes kept last counted =
      let counts = assertion-count f.statements at f.names legal.once label held.results held'.results goes.0 a is count counted in
      told (Cite label) held held' old new (CitesAssertion a count range) hears legal goes.0 goes.1 kept
      (λ items. record { label = label; cites = refl; entry = is; taken = λ s stands. (counts s stands).0; pops = (counts is.0 is.1.stands).1; range_is = last })
