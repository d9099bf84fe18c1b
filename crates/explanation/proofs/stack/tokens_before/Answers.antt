use Rattle.std.proofs.Common.{◌≡◌, ◌∙◌, ◌-◌, suc, ◌++◌, ap, sym, subst, arith}
use Rattle.std.proofs.lemmas.Bool.{and_parts}
use Rattle.std.specs.List.{list_all}
use Rattle.mm_lex.specs.Words.{AreWords, is_word}
use Rattle.explanation.specs.Fronts.{before_spot}
use Rattle.explanation.proofs.FrontLemmas.{front-here, front-on}
use Rattle.explanation.proofs.stack.tokens_before.Goals as goal

pub loop-word-init : goal.loop-word-init
loop-word-init c = record {
  visible = subst AreWords (sym c.iter-rest.ensures.words) c.iter-rest.ensures.visible;
  same = ap (λ t. t ++ before_spot c.iter-rest.result c.args.spot.token c.args.spot.byte) c.new-tokens.ensures ∙ ap (λ r. before_spot r c.args.spot.token c.args.spot.byte) c.iter-rest.ensures.words;
}

pub loop-word-preserved : goal.loop-word-preserved
loop-word-preserved c =
    let i = c.loop-word.invariant in
    let word = c.in-Some.word.now in
    let whole = before_spot c.args.proof.now c.args.spot.token c.args.spot.byte in
    let more : c.loop-word.left ≡ suc (c.loop-word.left - 1) = omega arith in
    record {
      visible = (and_parts (is_word word) (list_all is_word c.next.new.self) (subst AreWords c.in-Some.ensures.steps i.visible)).1;
      same = ap (λ t. t ++ before_spot c.next.new.self (c.loop-word.left - 1) c.args.spot.byte) c.in_ok-push.ensures.ok
          ∙ front-on c.loop-word.tokens c.loop-word.rest c.next.new.self whole word c.loop-word.left c.args.spot.byte i.same (c.loop-word.left - 1) c.in-Some.ensures.steps more;
    }

pub returns-then-left-eq0 : goal.returns-then-left-eq0
returns-then-left-eq0 c =
    let whole = before_spot c.args.proof.now c.args.spot.token c.args.spot.byte in
    c.in_ok-push_first_bytes.ensures
    ∙ front-here c.loop-word.tokens c.loop-word.rest c.next.new.self whole c.in-Some.word.now c.loop-word.left c.args.spot.byte c.loop-word.invariant.same c.in-Some.ensures.steps c.if-left-eq0.true
