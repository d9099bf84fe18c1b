use Rattle.verify.proofs.Words.{◌≡◌, subst, ℕ, ◌-◌, [], true, false, length, map, get_or, Some, ap, arith, refl, ◌∙◌, slice_get_within, stands-within, decode, images_of_names, Hypothesis, Float, Essential, HasSeenEssentials, HypothesisMatches, top}
use Rattle.verify.proofs.Named.{all-drop}
use Rattle.verify.proofs.ResultPlaceLemmas.{seen_place}
use Rattle.verify.proofs.ReadImageLemmas.{present-at, fits-essential, images-iff, none-match, one-more}
use Rattle.verify.proofs.results.Results.hypotheses_match.Goals.{in-Essential+else-not-matches, in_default}
use Rattle.verify.proofs.results.Results.hypotheses_match.Goals as goal

pub returns-then-not-has_essentials : goal.returns-then-not-has_essentials
returns-then-not-has_essentials c = (λ t. none-match _ _ _ _ (subst (HasSeenEssentials c.args.hypotheses.now) c.if-not-has_essentials.true c.requires.essentials), λ f. refl)

pub expr-expr-requires : goal.expr-expr-requires
expr-expr-requires c =
    let s = present-at c.args.frames.now.statements c.args.hypotheses.now c.loop-k.k (Essential c.in-Essential.position) c.requires.present (c.get.ensures ∙ ap Some c.in-Essential.is) in
    stands-within c.args.frames.now.statements c.in-Essential.position s.0 s.1

pub matches-requires-clause-range : goal.matches-requires-clause-range
matches-requires-clause-range c = (seen_place c.self.inside.symbols c.self.inside.stack.items c.deref.result.now c.args.self.now.results.stack (c.len.result - c.len-2.result) c.len-2.result c.loop-k.k _ c.deref.ensures.value (ap (λ v. v.results.stack) c.self.view_is) (omega (arith, c.len.ensures)) (omega (arith, c.requires.count, c.len-2.ensures)) (let w = slice_get_within c.args.hypotheses.now c.loop-k.k c.get.result c.get.ensures in omega (arith, w, c.len-2.ensures)) c.self.invariant.stack_within).0

pub returns-then-not-matches : goal.returns-then-not-matches
returns-then-not-matches c =
    let at = c.get.ensures ∙ ap Some c.in-Essential.is in
    let place = seen_place c.self.inside.symbols c.self.inside.stack.items c.deref.result.now c.args.self.now.results.stack (c.len.result - c.len-2.result) c.len-2.result c.loop-k.k _ c.deref.ensures.value (ap (λ v. v.results.stack) c.self.view_is) (omega (arith, c.len.ensures)) (omega (arith, c.requires.count, c.len-2.ensures)) (let w = slice_get_within c.args.hypotheses.now c.loop-k.k c.get.result c.get.ensures in omega (arith, w, c.len-2.ensures)) c.self.invariant.stack_within in
    let iff = fits-essential _ _ _ _ _ _ _ _ _ _ _ c.requires.legal.distinct c.requires.present at c.expr-expr.ensures.same c.expr-expr.ensures.codes c.requires.over (all-drop _ (length c.args.self.now.results.stack - length c.args.hypotheses.now) _ c.requires.named)
    refl (place.1 ∙ ap (λ n. get_or (top n c.args.self.now.results.stack) c.loop-k.k []) c.len-2.ensures) (images-iff _ _ _ _ _ (ap (λ v. v.images) c.self.view_is) c.matches.ensures) in
    (λ t. (let e : false ≡ true = t in cc), λ fit. let t = iff.1 (fit.each c.loop-k.k (Essential c.in-Essential.position) at) in let u = c.if-not-matches.true in cc)

pub loop-k-preserved : goal.loop-k-preserved
loop-k-preserved c =
    let P : ℕ → Hypothesis → Type 0 = λ j h. HypothesisMatches c.args.frames.now.statements (images_of_names c.args.frames.now.names c.args.self.now.images) h (get_or (map (decode c.args.frames.now.names) (top (length c.args.hypotheses.now) c.args.self.now.results.stack)) j []) in
    elim c.match-get.branch [
      | in-Essential+else-not-matches w ↦
          let at = c.get.ensures ∙ ap Some w.in-Essential.is in
          let place = seen_place c.self.inside.symbols c.self.inside.stack.items c.deref.result.now c.args.self.now.results.stack (c.len.result - c.len-2.result) c.len-2.result c.loop-k.k _ c.deref.ensures.value (ap (λ v. v.results.stack) c.self.view_is) (omega (arith, c.len.ensures)) (omega (arith, c.requires.count, c.len-2.ensures)) (let w = slice_get_within c.args.hypotheses.now c.loop-k.k c.get.result c.get.ensures in omega (arith, w, c.len-2.ensures)) c.self.invariant.stack_within in
          let iff = fits-essential _ _ _ _ _ _ _ _ _ _ _ c.requires.legal.distinct c.requires.present at w.expr-expr.ensures.same w.expr-expr.ensures.codes c.requires.over (all-drop _ (length c.args.self.now.results.stack - length c.args.hypotheses.now) _ c.requires.named)
          refl (place.1 ∙ ap (λ n. get_or (top n c.args.self.now.results.stack) c.loop-k.k []) c.len-2.ensures) (images-iff _ _ _ _ _ (ap (λ v. v.images) c.self.view_is) w.matches.ensures) in
          one-more P _ c.loop-k.k (Essential w.in-Essential.position) at c.loop-k.invariant (iff.0 w.if-not-matches.false)
      | in_default w ↦ one-more P _ c.loop-k.k (Float w.in_default.field-0) (c.get.ensures ∙ ap Some w.in_default.is) c.loop-k.invariant tt
    ]

pub returns : goal.returns
returns c = (
  λ t. record { each = λ j h at. c.loop-k.invariant j h (let w = slice_get_within c.args.hypotheses.now j h at in let e = c.loop-k-test.false in let n = c.len-k-end.ensures in omega (arith, w, e, n)) at },
  λ f. refl,
)
