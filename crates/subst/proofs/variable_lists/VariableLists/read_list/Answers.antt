use Rattle.subst.proofs.Words.{◌++◌, length, take, ◌∙◌, ap, below-at, code_image, images_at, symbols_in, compared_variables}
use Rattle.subst.proofs.VariableListLemmas.{compared-more, compared-none, compared-own, counted-next, listed-more}
use Rattle.subst.proofs.variable_lists.VariableLists.read_list.Goals as goal

pub variables_of-requires-in-loop-other-clause-number : goal.variables_of-requires-in-loop-other-clause-number
variables_of-requires-in-loop-other-clause-number c = below-at (length c.args.pairs.now.names) c.args.others.now c.loop-other.other-index 0 c.requires.below c.loop-other-test.true

pub loop-other-preserved-then-own : goal.loop-other-preserved-then-own
loop-other-preserved-then-own c =
    let v = c.args.pairs.now in
    let σ = images_at c.args.symbols.now c.args.images.now in
    let x = c.args.x in
    let numbers = c.args.others.now in
    let l = c.loop-other in
    let n = l.other-index in
    let old = l.self.variables.items in
    let new = c.variables_of-in-loop-other.new.self in
    let counted = counted-next v σ x numbers n c.args.self.now l.self new c.loop-other-test.true l.invariant.counted c.in_ok-range.ensures.counted in
    let range = listed-more v (code_image σ x) old new.variables.items c.in_ok-own.own c.in_ok-range.ensures.kept l.invariant.range in
    let listed = ap (λ v. v.items) c.variables_of-in-loop-other.ensures.others ∙ l.invariant.others in
    record {
      lists = c.in_ok-range.ensures.lists;
      counted = counted;
      ranges = c.variables_of-in-loop-other.ensures.ranges;
      range = range;
      others = listed ∙ compared-none v σ x numbers n old c.in_ok-own.own l.invariant.range c.if-own.true;
    }

pub loop-other-preserved-then-other-x : goal.loop-other-preserved-then-other-x
loop-other-preserved-then-other-x c =
    let v = c.args.pairs.now in
    let σ = images_at c.args.symbols.now c.args.images.now in
    let x = c.args.x in
    let numbers = c.args.others.now in
    let l = c.loop-other in
    let n = l.other-index in
    let old = l.self.variables.items in
    let new = c.variables_of-in-loop-other.new.self in
    let counted = counted-next v σ x numbers n c.args.self.now l.self new c.loop-other-test.true l.invariant.counted c.in_ok-range.ensures.counted in
    let range = listed-more v (code_image σ x) old new.variables.items c.in_ok-own.own c.in_ok-range.ensures.kept l.invariant.range in
    let listed = ap (λ v. v.items) c.variables_of-in-loop-other.ensures.others ∙ l.invariant.others in
    record {
      lists = c.in_ok-range.ensures.lists;
      counted = counted;
      ranges = c.variables_of-in-loop-other.ensures.ranges;
      range = range;
      others = listed ∙ compared-own v σ x numbers n c.loop-other-test.true c.if-other-x.true;
    }

pub loop-other-preserved : goal.loop-other-preserved
loop-other-preserved c =
    let v = c.args.pairs.now in
    let σ = images_at c.args.symbols.now c.args.images.now in
    let x = c.args.x in
    let numbers = c.args.others.now in
    let l = c.loop-other in
    let n = l.other-index in
    let old = l.self.variables.items in
    let new = c.variables_of-in-loop-other.new.self in
    let counted = counted-next v σ x numbers n c.args.self.now l.self new c.loop-other-test.true l.invariant.counted c.in_ok-range.ensures.counted in
    let range = listed-more v (code_image σ x) old new.variables.items c.in_ok-own.own c.in_ok-range.ensures.kept l.invariant.range in
    let listed = ap (λ v. v.items) c.variables_of-in-loop-other.ensures.others ∙ l.invariant.others in
    record {
      lists = record { each = c.in_ok-range.ensures.lists.each };
      counted = record { read = λ read h. record { each = (counted.read read h).each }; work = counted.work };
      ranges = c.variables_of-in-loop-other.ensures.ranges;
      range = range;
      others =
          c.in_ok-extend_from_slice.ensures.items
          ∙ (ap (λ xs. xs ++ c.symbols_at.result.now) listed
          ∙ (ap (λ xs. compared_variables v σ x (take n numbers) ++ xs) (c.symbols_at.ensures ∙ (ap (λ xs. symbols_in xs c.in_ok-range.range) c.deref.ensures.value ∙ c.in_ok-range.ensures.range.lists))
          ∙ compared-more v σ x numbers n old c.in_ok-own.own l.invariant.range c.if-own.false c.loop-other-test.true c.if-other-x.false));
    }
