use Rattle.subst.proofs.Words.{◌+◌, length, sym, ◌∙◌, subst, below-at, get_or, [], ◌∷◌}
use Rattle.subst.proofs.VariableListLemmas.{AreRead, extends-both, read-constant, read-variable}
use Rattle.subst.proofs.variable_lists.VariableLists.read.Goals as goal
use Rattle.subst.proofs.variable_lists.VariableLists.read.Goals.{then-variable+in_ok-push, else-variable}

pub variable-requires : goal.variable-requires
variable-requires c = below-at (length c.args.pairs.now.names) c.args.symbols.now c.loop-symbol.symbol-index 0 c.requires c.loop-symbol-test.true

pub loop-symbol-preserved : goal.loop-symbol-preserved
loop-symbol-preserved c =
    let v = c.args.pairs.now in
    let symbols = c.args.symbols.now in
    let l = c.loop-symbol in
    let n = l.symbol-index in
    let old = c.args.self.now.variables.items in
    let new = l.self.variables.items in
    let unmet = sym c.has.ensures ∙ c.if-has.false in
    elim c.if-variable.branch [
      | then-variable+in_ok-push w ↦ rw w.self-is (record {
        read = subst (λ xs. AreRead v symbols (n + 1) old xs c.add.new.self) (sym w.in_ok-push.ensures.items) (read-variable v symbols n old new l.self.met c.loop-symbol-test.true l.invariant.read c.add.new.self c.in_ok-add.ensures unmet (sym c.variable.ensures ∙ w.if-variable.true));
        kept = extends-both old new w.push.new.self.items l.invariant.kept (record { more = get_or symbols n 0 ∷ []; whole = w.in_ok-push.ensures.items });
        lists = l.invariant.lists;
        others = l.invariant.others;
        work = l.invariant.work;
      })
      | else-variable w ↦ rw w.self-is (record {
        read = read-constant v symbols n old new l.self.met c.loop-symbol-test.true l.invariant.read c.add.new.self c.in_ok-add.ensures unmet (sym c.variable.ensures ∙ w.if-variable.false);
        kept = l.invariant.kept;
        lists = l.invariant.lists;
        others = l.invariant.others;
        work = l.invariant.work;
      })
    ]
