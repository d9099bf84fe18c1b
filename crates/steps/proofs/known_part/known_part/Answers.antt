use Rattle.steps.proofs.Words.{◌∙◌, ◌∷◌, ◌++◌, [], length, sym, ap, subst, arith, refl}
use Rattle.std.proofs.lemmas.Bool.{and_parts}
use Rattle.std.specs.List.{list_all}
use Rattle.mm_lex.specs.Words.{AreWords, is_word}
use Rattle.steps.specs.KnownPart.{KnowsTokens, none, more, IsEnd, known, known_of}
use Rattle.steps.proofs.KnownPartLemmas.{part-on, part-ends}
use Rattle.steps.proofs.known_part.known_part.Goals as goal

pub loop-token-init : goal.loop-token-init
loop-token-init c = (
  subst AreWords (sym c.iter-rest.ensures.words) c.iter-rest.ensures.visible,
  ([], c.iter-rest.ensures.words, none refl (ap (λ t. known t c.new-2.result.items 0) c.new.ensures ∙ ap (λ s. known [] s 0) c.new-2.ensures.items)),
  (let e = ap length c.new.ensures in omega (arith, e)),
)

pub loop-token-preserved : goal.loop-token-preserved
loop-token-preserved c =
    let i = c.loop-token.invariant in
    let S = c.args.frames.now.statements in
    let token = c.in-Some.token.now in
    let step = rw c.if-not-branch.false at (c.in_ok-push_token.ensures.knows c.args.limit i.2) in (
      (and_parts (is_word token) (list_all is_word c.next.new.self) (subst AreWords c.in-Some.ensures.steps i.0)).1,
      (
        i.1.0 ++ token ∷ [],
        part-on S c.args.at c.args.limit c.args.tokens.now i.1.0 c.loop-token.rest c.next.new.self token i.1.1 c.in-Some.ensures.steps,
        more i.1.0 token (known_of c.loop-token.known) i.1.2 step refl,
      ),
      c.in_ok-push_token.ensures.left ∙ i.2,
    )

pub returns-then-not-branch : goal.returns-then-not-branch
returns-then-not-branch c =
    let i = c.loop-token.invariant in
    let S = c.args.frames.now.statements in
    let token = c.in-Some.token.now in
    let step = rw c.if-not-branch.true at (c.in_ok-push_token.ensures.knows c.args.limit i.2) in
    part-ends S c.args.at c.args.limit c.args.tokens.now i.1.0 c.loop-token.rest c.next.new.self token i.1.1 c.push_token.new.self
    (subst (λ p. KnowsTokens S c.args.at i.1.0 (known_of p)) (sym step.1) i.1.2) c.in-Some.ensures.steps
    (subst (λ p. IsEnd S c.args.at c.args.limit token (known_of p)) (sym step.1) step.0)
