use Rattle.verify.proofs.Words.{◌≡◌, ℕ, ◌∙◌, Bool, ap, arith, refl, List, sym, SymbolRange, Some, Float, Essential, AreWithin, AreInside, HasSeenEssentialsBefore, ReadTo}
use Rattle.verify.proofs.ReadImageLemmas.{float-next, other-next, read-whole, mistyped, place-at, place-within, seen-next}
use Rattle.verify.proofs.results.read_off.Goals.{in-Float+in_ok-read_float-in-Float+else-not-branch, in-Essential}
use Rattle.verify.proofs.results.read_off.Goals as goal

pub read_float-requires : goal.read_float-requires
read_float-requires c = place-within _ _ _ _ _ _ c.requires.same c.get.ensures c.requires.within

pub returns-in_err-read_float-in-Float-clause-inside : goal.returns-in_err-read_float-in-Float-clause-inside
returns-in_err-read_float-in-Float-clause-inside c n w = c.read_float.ensures.inside n (place-within _ _ _ _ _ _ c.requires.same c.get.ensures w) (c.loop-k.invariant.1 n w)

pub returns-then-not-branch-clause-ok : goal.returns-then-not-branch-clause-ok
returns-then-not-branch-clause-ok c = mistyped _ _ _ _ _ _ _ _ c.requires.same (c.get.ensures ∙ ap Some c.in-Float.is) c.in_ok-read_float-in-Float.ensures.begins c.if-not-branch.true

pub returns-then-not-branch-clause-inside : goal.returns-then-not-branch-clause-inside
returns-then-not-branch-clause-inside c n w = c.read_float.ensures.inside n (place-within _ _ _ _ _ _ c.requires.same c.get.ensures w) (c.loop-k.invariant.1 n w)

pub loop-k-preserved : goal.loop-k-preserved
loop-k-preserved c =
    let P : ℕ → List (ℕ × SymbolRange) → Bool → Type 0 = λ n v seen. ReadTo n c.args.symbols.now c.args.typecodes.now c.args.hypotheses.now c.args.places.now v × ((m : ℕ) → AreWithin m c.args.places.now → AreInside m v) × HasSeenEssentialsBefore n c.args.hypotheses.now seen in
    elim c.match-get.branch [
      | in-Float+in_ok-read_float-in-Float+else-not-branch w ↦
          let float = c.get.ensures ∙ ap Some w.in-Float.is in
          rw (w.images-is, w.has_essentials-is) (
            float-next _ _ _ _ _ c.requires.different _ (place-at _ _ _ _ _ c.requires.same float) _ float _ _ c.loop-k.invariant.0 (w.in_ok-read_float-in-Float.ensures.begins.0 w.if-not-branch.false) (w.in_ok-read_float-in-Float.ensures.set w.if-not-branch.false),
            λ n within. w.read_float.ensures.inside n (place-within _ _ _ _ _ _ c.requires.same c.get.ensures within) (c.loop-k.invariant.1 n within),
            seen-next _ _ _ _ c.loop-k.invariant.2 (λ t. t) (λ p e. (let f : Some (Float w.in-Float.variable) ≡ Some (Essential p) = sym float ∙ e in cc)),
          )
      | in-Essential w ↦ rw (w.images-is, w.has_essentials-is) (
        other-next _ _ _ _ _ (λ x e. (let f : Some (Float x) ≡ Some (Essential w.in-Essential.field-0) = sym e ∙ (c.get.ensures ∙ ap Some w.in-Essential.is) in cc)) _ c.loop-k.invariant.0,
        c.loop-k.invariant.1,
        seen-next _ _ _ _ c.loop-k.invariant.2 (λ t. refl) (λ p e. refl),
      )
    ]

pub returns-clause-ok : goal.returns-clause-ok
returns-clause-ok c = read-whole _ _ _ _ c.loop-k.k _ (omega (arith, c.loop-k-test.false, c.len-k-end.ensures)) c.loop-k.invariant.0

pub returns-clause-essentials : goal.returns-clause-essentials
returns-clause-essentials c = λ k p less at. c.loop-k.invariant.2 k p (omega (arith, less, c.loop-k-test.false, c.len-k-end.ensures)) at
