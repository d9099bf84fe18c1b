use Rattle.library.proofs.Words.{◌<◌, sym, ap, subst, ◌-◌, ◌∙◌, Some, true, false, replicate, length, slice_set, arith, proof_of, is_provable, label_or_empty}
use Rattle.library.proofs.CitedByLemmas.{IsSearched, search-start, search-past, search-miss, search-user, search-end}
use Rattle.library.proofs.cited_by.citing_labels.Goals as goal
use Rattle.library.proofs.cited_by.citing_labels.Goals.{in-Prove+in_ok-cites_marked+then-branch+in_ok-copy+in_ok-push, in-Prove+in_ok-cites_marked+else-branch, in_default}

pub loop-index-init : goal.loop-index-init
loop-index-init c =
    let marks = slice_set c.in_ok-sought.sought.items (c.args.at - 1) true in
    subst (IsSearched c.args.database.now c.args.all c.args.at c.args.at marks) (sym c.new-labels.ensures.items)
    (search-start c.args.database.now c.args.all c.args.at marks c.statements-statements.ensures.good c.requires.0 c.requires.1
    (ap (λ ms. slice_set ms (c.args.at - 1) true) (c.in_ok-sought.ensures.items_if_clones_equal (λ y e. e) ∙ ap (λ S. replicate (length S) false) c.statements-statements.ensures.statements)))

pub statement-requires : goal.statement-requires
statement-requires c =
    (omega arith, omega (arith, c.loop-index-test.true, ap length c.statements-statements.ensures.statements))

pub cites_marked-requires : goal.cites_marked-requires
cites_marked-requires c = (c.statement.result.now, record { stands = c.statement.ensures.stands; provable = ap is_provable c.in-Prove.is }, ap proof_of c.in-Prove.is)

pub loop-index-preserved : goal.loop-index-preserved
loop-index-preserved c =
    let S = c.args.database.now in
    let p = c.loop-index.index in
    let ms = c.loop-index.sought.items in
    let labels = c.loop-index.labels.items in
    let s = c.statement.result.now in
    let good = c.statements-statements.ensures.good in
    let within : p < length S = omega (arith, c.loop-index-test.true, ap length c.statements-statements.ensures.statements) in
    elim c.match-statement.branch [
      | in-Prove+in_ok-cites_marked+then-branch+in_ok-copy+in_ok-push w ↦ rw (w.sought-is, w.labels-is, w.in_ok-push.ensures.items)
          (search-user S c.args.all c.args.at p ms labels good within c.loop-index.invariant w.in_ok-cites_marked.field-0 w.deref.result.now w.deref.ensures.value w.in_ok-cites_marked.ensures s _ c.statement.ensures.stands
          (ap (λ r. label_or_empty (Some r)) w.in-Prove.is ∙ sym w.in_ok-copy.ensures) c.loop-index.auto.index w.if-branch.true)
      | in-Prove+in_ok-cites_marked+else-branch w ↦ rw (w.sought-is, w.labels-is)
          (search-miss S c.args.all c.args.at p ms labels good within c.loop-index.invariant w.in_ok-cites_marked.field-0 w.deref.result.now w.deref.ensures.value w.in_ok-cites_marked.ensures w.if-branch.false)
      | in_default w ↦ rw (w.sought-is, w.labels-is) (search-past S c.args.all c.args.at p ms labels good within c.loop-index.invariant s c.statement.ensures.stands w.in_default.not-Prove)
    ]

pub returns : goal.returns
returns c =
    search-end c.args.database.now c.args.all c.args.at c.loop-index.index c.loop-index.sought.items c.loop-index.labels.items (omega (arith, c.loop-index-test.false, ap length c.statements-statements.ensures.statements)) c.loop-index.invariant
