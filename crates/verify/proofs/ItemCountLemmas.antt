-- What an item counts when the results are lists of numbers.
use Rattle.verify.proofs.Words.{◌≡◌, ℕ, suc, ◌+◌, ◌-◌, ◌≤◌, Bool, true, false, List, [], ◌∷◌, ◌++◌, length, map, slice_get, slice_get-map, option_map, Result, Ok, Err, IfOk, Option, Some, None, subst, refl, sym, ◌∙◌, ap, arith, length-append, map_push, Name, Stmt, Expr, Database, stmt_at, before, expr_of, decode, Item, Cite, Mark, Recall, Results, with_mark, named, HeldResults, Adds, Marks, Recalls, weight_limit, Assertion, Nothing}
use Rattle.std.specs.Result.{IfErr, IsErrAnd}
use Rattle.frame.proofs.LegalAfter.{stands-at}
use Rattle.frame.specs.Sizes.{assertion_size}
use Rattle.verify.proofs.CountLemmas.{fault-is, outcome-same, pushed-is, with-none}
use Rattle.verify.proofs.Named.{get-map-on, named-mark}
use Rattle.verify.proofs.WorkLemmas.{hypothesis-found, nothing-found}
use Rattle.verify.specs.Counted.{Gives, HasCountedEntry, HasCountedFit, HasCountedItem, IsPastEntry, IsPastFit, is_past_beside, outcome_of}
use Rattle.verify.specs.Metered.{Metered, is_over, metered, with_work}
use Rattle.verify.specs.RunsItemByNumber.{IsReady}
use Rattle.verify.specs.Work.{mark, pushed, recall}
use Rattle.verify.specs.declared.citation.ProofContext.{ProofContext}
use Rattle.verify.specs.declared.label_table.LabelEntry.TheVariants.{Hypothesis}

-- two facts of an answer hold together
pub ok-both : {A E : Type 0} (r : Result A E) (P Q : A → Type 0) → IfOk r P → IfOk r Q → IfOk r (λ x. P x × Q x)
ok-both (Ok x) P Q p q = (p, q)
ok-both (Err e) P Q p q = p

-- an error that is passed on
pub passed_on : {A E : Type 0} (r : Result A E) (e : E) (P : E → Type 0) → IsErrAnd r (λ f. f ≡ e) → P e → IfErr r P
passed_on (Ok a) e P is h = absurd is
passed_on (Err f) e P is h = subst P (sym is) h

-- the last of the results
top-is : (under : List Expr) (e : Expr) (stack : List Expr) → stack ≡ under ++ e ∷ [] → slice_get stack (length stack - 1) ≡ Some e
top-is under e stack whole =
    let l = length-append under (e ∷ []) in
    let m = ap length whole in
    let at_end : length stack - 1 ≡ length under = omega (arith, l, m) in
    ap (slice_get stack) at_end ∙ (ap (λ xs. slice_get xs (length under)) whole ∙ stands-at under e [])

pub more-work : (m : Metered) (x y : ℕ) → with_work (with_work m x) y ≡ with_work m (x + y)
more-work m x y = let e : m.count + x + y ≡ m.count + (x + y) = omega arith in ap (λ n. metered n m.limit) e

module _ (t : ProofContext) (old new : HeldResults) (m m' : Metered) where
  abbrev S : Database
  S = t.frames.now.statements

  abbrev names : List Name
  names = t.frames.now.names

  -- an assertion counts its size too
  pub fit-entry : (a : ℕ) (size : ℕ) (after : Metered) (ok : Bool) → after ≡ with_work m size → ((s : Stmt) → stmt_at S a ≡ Some s → size ≡ assertion_size (before S a) s)
      → HasCountedFit t a old new after m' ok → HasCountedEntry t (Assertion a) old new m m' ok
  fit-entry a size after ok sized is fit = λ label entry. record {
    extra = size + fit.extra;
    metered = fit.metered ∙ (ap (λ x. with_work x fit.extra) sized ∙ more-work m size fit.extra);
    gives =
        let e = is entry.0 entry.1.stands in
        let cost : 1 + assertion_size (before S a) entry.0 + fit.extra ≡ 1 + (size + fit.extra) = omega (arith, e) in
        fit.gives label entry.0 entry.1 ∙ ap (λ k. outcome_of k ok names old.results new.results) cost;
  }

  -- beside the results, with its size and a part of the rest the meter is past its limit
  pub past-entry : (a : ℕ) (size : ℕ) (after : Metered) → after ≡ with_work m size → ((s : Stmt) → stmt_at S a ≡ Some s → size ≡ assertion_size (before S a) s)
      → IsPastFit t a old after → IsPastEntry t (Assertion a) old m
  past-entry a size after sized is fit = λ label entry. record {
    extra = size + fit.extra;
    past =
        let e : m.count + size + old.results.weight + fit.extra ≡ m.count + old.results.weight + (size + fit.extra) = omega arith in
        subst (λ n. is_over m.limit n ≡ true) e (subst (λ x. is_past_beside old x fit.extra ≡ true) sized fit.past);
    within = let e = is entry.0 entry.1.stands in let least = fit.within label entry.0 entry.1 in omega (arith, e, least);
  }

  -- an item that counts 1 and its result
  single : (item : Item) (ok : Bool) → m' ≡ m → Gives t item old new 1 ok → HasCountedItem t item old new m m' ok
  single item ok same gives = record { extra = 0; metered = same ∙ with-none m; gives = gives ∙ (let e : 1 ≡ 1 + 0 = omega arith in ap (λ k. outcome_of k ok names old.results new.results) e) }

  pub hypothesis-counted : (ready : IsReady t) (i : ℕ) (e : List ℕ) (ok : Bool) → ((s : Stmt) → stmt_at S i ≡ Some s → decode names e ≡ expr_of s) → m' ≡ m → new.results.weight ≤ weight_limit
      → (ok ≡ false → new.results ≡ old.results) → Adds ok old.results new.results old.results.stack e → HasCountedEntry t (Hypothesis i) old new m m' ok
  hypothesis-counted ready i e ok is same light kept adds = λ label entry.
      single (Cite label) ok same
      (hypothesis-found S t.at ready.legal.once i entry.0 label entry.1 entry.2 (named names old.results)
      ∙ (ap (λ x. pushed 1 (named names old.results) (map (decode names) old.results.stack) x) (sym (is entry.0 entry.2.stands))
      ∙ pushed-is names 1 ok old.results new.results old.results.stack e light kept adds))

  pub nothing-counted : m' ≡ m → new.results ≡ old.results → HasCountedEntry t Nothing old new m m' false
  nothing-counted same kept = λ label entry. single (Cite label) false same (nothing-found S t.at label entry (named names old.results) ∙ fault-is names 1 old.results new.results kept)

  pub mark-counted : (ok : Bool) → m' ≡ m → (ok ≡ false → new.results ≡ old.results) → Marks ok old.results new.results → HasCountedItem t Mark old new m m' ok
  mark-counted true same kept marks =
      let w = ap (λ (r : Results ℕ). r.weight) marks.3 in
      single Mark true same
      (ap (λ o. mark o (named names old.results)) (top-is (map (decode names) marks.0) (decode names marks.1) (map (decode names) old.results.stack) (ap (map (decode names)) marks.2 ∙ map_push (decode names) marks.0 marks.1))
      ∙ outcome-same 1 (1 + (new.results.weight - old.results.weight)) (Some (with_mark (named names old.results) (decode names marks.1))) (Some (named names new.results)) (omega (arith, w))
      (ap Some (sym (ap (named names) marks.3 ∙ named-mark names old.results marks.1))))
  mark-counted false same kept none =
      single Mark false same
      (ap (λ stack. mark (slice_get stack (length stack - 1)) (named names old.results)) (ap (map (decode names)) none) ∙ fault-is names 1 old.results new.results (kept refl))

  pub recall-counted : (ok : Bool) (index : ℕ) → m' ≡ m → new.results.weight ≤ weight_limit → (ok ≡ false → new.results ≡ old.results) → Recalls ok old.results new.results (suc index)
      → HasCountedItem t (Recall (suc index)) old new m m' ok
  recall-counted true index same light kept r =
      single (Recall (suc index)) true same
      (ap (λ o. recall o (named names old.results)) (get-map-on names old.results.saved index r.0 r.1)
      ∙ pushed-is names 1 true old.results new.results old.results.stack r.0 light kept r.2)
  recall-counted false index same light kept none = by (slice_get old.results.saved index) refl
    where
      by : (o : Option (List ℕ)) → slice_get old.results.saved index ≡ o → HasCountedItem t (Recall (suc index)) old new m m' false
      by None e =
          single (Recall (suc index)) false same
          (ap (λ o. recall o (named names old.results)) (slice_get-map (decode names) old.results.saved index ∙ ap (option_map (decode names)) e) ∙ fault-is names 1 old.results new.results (kept refl))
      by (Some e) is =
          single (Recall (suc index)) false same
          (ap (λ o. recall o (named names old.results)) (get-map-on names old.results.saved index e is)
          ∙ pushed-is names 1 false old.results new.results old.results.stack e light kept (none e is))
