use Rattle.sites.proofs.ReferenceWords.{◌≡◌, ◌+◌, ◌<◌, ◌≤◌, suc, length, List, ℕ, ap, sym, ◌∙◌, subst, arith, Vec, In, lists_of, AreListsOfFirst}
use Rattle.sites.proofs.PassLemmas.{cited-within, done-next, done-all, lists-count, lists-push, lent-lists, have-as, added-as}
use Rattle.sites.proofs.references.cross_references.Goals as goal

pub append_citing_position_to_all-requires-clause-within : goal.append_citing_position_to_all-requires-clause-within
append_citing_position_to_all-requires-clause-within c =
    λ p i.
    let w = cited-within c.args.library.now.replica.statements c.loop-index.index c.in_ok-cited.cited.items c.statements-count.ensures.good c.in_ok-cited.ensures p (subst (In p) c.as_slice.ensures.value i) in
    let lent = ap length c.deref_mut.ensures.value in
    let count = lists-count c.loop-index.cited_by.items in
    (w.0, omega (arith, w.1, lent, count, c.loop-index.invariant.cited_by_count, c.loop-index.invariant.within))

pub axioms_of_cited-requires-clause-axioms : goal.axioms_of_cited-requires-clause-axioms
axioms_of_cited-requires-clause-axioms c =
    λ p i.
    let w = cited-within c.args.library.now.replica.statements c.loop-index.index c.in_ok-cited.cited.items c.statements-count.ensures.good c.in_ok-cited.ensures p (subst (In p) c.as_slice-in-loop-index.ensures.value i) in
    let lent = ap length c.deref.ensures.value in
    let count = lists-count c.loop-index.axioms.items in
    (w.0, omega (arith, w.1, lent, count, c.loop-index.invariant.axioms_count))

pub loop-index-preserved : goal.loop-index-preserved
loop-index-preserved c =
    let S = c.args.library.now.replica.statements in
    let n = c.loop-index.index in
    let news = c.append_citing_position_to_all.new.cited_by in
    let less : n < length S = omega (arith, c.loop-index-test.true, ap length c.statements-count.ensures.statements) in
    let next : n + 1 ≡ suc n = omega arith in
    let have = have-as (suc n) (n + 1) c.as_slice.result.now c.in_ok-cited.cited.items c.deref_mut.result.now c.loop-index.cited_by.items news next c.as_slice.ensures.value c.deref_mut.ensures.value c.in_ok-append_citing_position_to_all.ensures in
    let given = added-as S c.statements.result.now c.as_slice-in-loop-index.result.now c.in_ok-cited.cited.items c.in_ok-list.list.items c.deref.result.now c.loop-index.axioms.items
    c.statements.ensures.statements c.as_slice-in-loop-index.ensures.value c.deref.ensures.value c.in_ok-list.ensures in
    let more = lists-push c.loop-index.axioms.items c.push.new.self.items c.in_ok-list.list c.in_ok-push.ensures.items in
    let whole = lent-lists c.loop-index.cited_by.len news c.loop-index.cited_by.items
    (let count = have.count in let one = lists-count news in let other = lists-count c.loop-index.cited_by.items in omega (arith, count, one, other)) (let ok = c.loop-index.cited_by.ok in omega (arith, ok.0)) in
    subst (λ (us : List (Vec ℕ)). AreListsOfFirst S (n + 1) (lists_of c.push.new.self.items) (lists_of us)) (sym whole)
    (done-next S n (n + 1) (lists_of c.loop-index.axioms.items) (lists_of c.loop-index.cited_by.items) (lists_of c.push.new.self.items) (lists_of news) c.in_ok-cited.cited.items c.in_ok-list.list.items
    c.statements-count.ensures.good next less c.in_ok-cited.ensures have given more c.loop-index.invariant)

pub returns : goal.returns
returns c =
    done-all c.args.library.now.replica.statements c.loop-index.index (lists_of c.loop-index.axioms.items) (lists_of c.loop-index.cited_by.items)
    (omega (arith, c.loop-index-test.false, ap length c.statements-count.ensures.statements)) c.loop-index.invariant
