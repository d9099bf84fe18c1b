use Rattle.unproved.proofs.Words.{◌≡◌, ◌+◌, [], ◌∷◌, ◌++◌, Some, true, ◌∙◌, ap, drop, sym, take_all, drop_all, sameb, bare, broken_rule, first_broken, numbered, or_later, the_type, Memory, left-at, left-more, none-at-end, rule-at-end, rule-is, taken-more}
use Rattle.scope.specs.Active.{bares}
use Rattle.unproved.proofs.legal_database.add_all.Goals as goal

pub loop-statement-init : goal.loop-statement-init
loop-statement-init c =
    let none = ap (λ k. k.statements) c.reserve.ensures ∙ c.requires.no_frames in
    record {
      same = c.requires.no_rules ∙ sym none;
      taken = none;
      left = ap (λ S. first_broken 1 S c.args.statements.now) (sym none);
    }

pub loop-statement-preserved : goal.loop-statement-preserved
loop-statement-preserved c =
    let i = c.loop-statement.invariant in
    let e = c.in_default.ensures in
    let s = c.statement-item in
    let less = c.loop-statement-test.true in
    record {
      same = e.accepted ∙ (ap (λ U. U ++ bare s.result ∷ []) i.same ∙ sym e.added);
      taken = e.added ∙ (ap (λ U. U ++ bare s.result ∷ []) i.taken ∙ sym (taken-more _ _ s.result less s.is));
      left = left-more _ [] _ _ c.loop-statement.statement-index s.result less s.is (sym e.legal) e.added i.left;
    }

pub returns-in-Err-clause-broken : goal.returns-in-Err-clause-broken
returns-in-Err-clause-broken c = λ is all.
    let i = c.loop-statement.invariant in
    let e = c.in-Err.ensures in
    let index = c.loop-statement.statement-index in
    let S = c.args.statements.now in
    let now = c.loop-statement.frames.statements in
    let s = c.statement-item in
    let broken = rule-is (broken_rule now s.result) c.in-Err.rule e.broken e.only_memory
    (λ f. let same : c.eq.result ≡ true = c.eq.ensures ∙ ap (λ r. sameb the_type r Memory) f in let no = c.if-eq.false in cc) in
    let found : first_broken 1 [] S ≡ Some (index + 1, c.in-Err.rule) = i.left ∙ (left-at now S index s.result c.loop-statement-test.true s.is
    ∙ ap (λ r. or_later (index + 1) r (first_broken (index + 1 + 1) (now ++ s.result ∷ []) (drop (index + 1) S))) broken) in
    absurd (let no = sym found ∙ all in cc)

pub returns-in-Ok-clause-legal : goal.returns-in-Ok-clause-legal
returns-in-Ok-clause-legal c = λ f.
    let i = c.loop-statement.invariant in
    let S = c.args.statements.now in
    let index = c.loop-statement.statement-index in
    let over = c.loop-statement-test.false in
    let all = ap bares (take_all index S over) in
    let end = i.left ∙ (ap (λ U. first_broken (index + 1) U (drop index S)) (sym i.same) ∙ ap (first_broken (index + 1) c.loop-statement.rules.statements) (drop_all index S over)) in
    record {
      rules_are = i.same ∙ (i.taken ∙ all);
      frames_are = i.taken ∙ all;
      shaped = c.requires.shaped;
      legal = end ∙ ap (numbered (index + 1)) (none-at-end _ _ c.close_at_end.ensures.«open» c.in-Ok.is);
    }

pub returns-in-Err-close_at_end-clause-broken : goal.returns-in-Err-close_at_end-clause-broken
returns-in-Err-close_at_end-clause-broken c = λ is legal.
    let i = c.loop-statement.invariant in
    let S = c.args.statements.now in
    let index = c.loop-statement.statement-index in
    let over = c.loop-statement-test.false in
    let end = i.left ∙ (ap (λ U. first_broken (index + 1) U (drop index S)) (sym i.same) ∙ ap (first_broken (index + 1) c.loop-statement.rules.statements) (drop_all index S over)) in
    let found = end ∙ ap (numbered (index + 1)) (rule-at-end _ _ _ c.close_at_end.ensures.«open» c.close_at_end.ensures.closed c.in-Err-close_at_end.is) in
    absurd (let no = sym found ∙ legal in cc)
