use Rattle.subst.proofs.Words.{◌≡◌, ◌++◌, cond, length, lookup, nat_eq, sym, ◌∙◌, ap, subst, Some, AreBelow, AreInside, ◌+◌, code_image, images_at, numbered_variables, IsListOf}
use Rattle.subst.proofs.ImageRangesLemmas.{inside-set}
use Rattle.subst.proofs.VariableListLemmas.{counted-again, counted-new, inside-extends, listed-last, lists-inside, lists-set}
use Rattle.subst.proofs.variable_lists.VariableLists.variables_of.Goals as goal

pub returns-in-Some-clause-ranges : goal.returns-in-Some-clause-ranges
returns-in-Some-clause-ranges c = lists-inside c.args.pairs.now (images_at c.args.symbols.now c.args.images.now) c.args.self.now c.requires.lists

pub returns-in-Some-clause-counted : goal.returns-in-Some-clause-counted
returns-in-Some-clause-counted c = counted-again (images_at c.args.symbols.now c.args.images.now) c.args.symbol c.in-Some.range c.args.self.now (sym c.get.ensures ∙ c.in-Some.is)

pub returns-in-Some-clause-range : goal.returns-in-Some-clause-range
returns-in-Some-clause-range c = c.requires.lists.each c.args.symbol c.in-Some.range (sym c.get.ensures ∙ c.in-Some.is)

pub read-requires : goal.read-requires
read-requires c = subst (AreBelow (length c.args.pairs.now.names)) (sym c.image_of.ensures) (c.requires.named c.args.symbol c.requires.number)

pub returns-in_err-read-clause-ranges : goal.returns-in_err-read-clause-ranges
returns-in_err-read-clause-ranges c =
    inside-extends c.args.self.now c.read.new.self c.read.ensures.lists c.read.ensures.kept (lists-inside c.args.pairs.now (images_at c.args.symbols.now c.args.images.now) c.args.self.now c.requires.lists)

pub returns-in_default-try_from-clause-ranges : goal.returns-in_default-try_from-clause-ranges
returns-in_default-try_from-clause-ranges c =
    inside-extends c.args.self.now c.read.new.self c.read.ensures.lists c.read.ensures.kept (lists-inside c.args.pairs.now (images_at c.args.symbols.now c.args.images.now) c.args.self.now c.requires.lists)

pub returns-in_err-set-clause-ranges : goal.returns-in_err-set-clause-ranges
returns-in_err-set-clause-ranges c =
    subst (AreInside (length c.read.new.self.variables.items)) (sym c.in_err-set.ensures.same)
    (inside-extends c.args.self.now c.read.new.self c.read.ensures.lists c.read.ensures.kept (lists-inside c.args.pairs.now (images_at c.args.symbols.now c.args.images.now) c.args.self.now c.requires.lists))

added : (c : goal.In_ok-set) → c.read.new.self.variables.items ≡ c.args.self.now.variables.items ++ numbered_variables c.args.pairs.now (code_image (images_at c.args.symbols.now c.args.images.now) c.args.symbol)
added c = c.in_ok-read.ensures.added ∙ ap (λ image. c.args.self.now.variables.items ++ numbered_variables c.args.pairs.now image) c.image_of.ensures

own : (c : goal.In_ok-set) → IsListOf c.args.pairs.now c.read.new.self.variables.items (code_image (images_at c.args.symbols.now c.args.images.now) c.args.symbol) (record { start = c.len-start.result; end = c.in-Ok.end })
own c =
    listed-last c.args.pairs.now (code_image (images_at c.args.symbols.now c.args.images.now) c.args.symbol) c.args.self.now.variables.items c.read.new.self.variables.items (record { start = c.len-start.result; end = c.in-Ok.end }) (added c)
    (c.len-start.ensures ∙ c.args.self.now.variables.ok.0) (c.in-Ok.ensures.1 ∙ (c.len.ensures ∙ c.read.new.self.variables.ok.0))

pub returns-clause-lists : goal.returns-clause-lists
returns-clause-lists c =
    lists-set c.args.pairs.now (images_at c.args.symbols.now c.args.images.now) c.args.self.now _ c.args.symbol (record { start = c.len-start.result; end = c.in-Ok.end }) c.requires.lists c.read.ensures.kept
    (λ y. c.in_ok-set.ensures.ok y ∙ ap (λ ps. cond (nat_eq y c.args.symbol) (Some (record { start = c.len-start.result; end = c.in-Ok.end })) (lookup (nat_eq y) ps)) c.read.ensures.lists) (own c)

pub returns-clause-ranges : goal.returns-clause-ranges
returns-clause-ranges c =
    inside-set (length c.read.new.self.variables.items) c.read.new.self.lists c.set.new.self c.args.symbol (record { start = c.len-start.result; end = c.in-Ok.end })
    (inside-extends c.args.self.now c.read.new.self c.read.ensures.lists c.read.ensures.kept (lists-inside c.args.pairs.now (images_at c.args.symbols.now c.args.images.now) c.args.self.now c.requires.lists)) c.in_ok-set.ensures.ok
    (own c).low (own c).high

pub returns-clause-counted : goal.returns-clause-counted
returns-clause-counted c =
    counted-new (images_at c.args.symbols.now c.args.images.now) c.args.symbol (record { start = c.len-start.result; end = c.in-Ok.end }) c.args.self.now _ (sym c.get.ensures ∙ c.in_default.is)
    (λ y. c.in_ok-set.ensures.ok y ∙ ap (λ ps. cond (nat_eq y c.args.symbol) (Some (record { start = c.len-start.result; end = c.in-Ok.end })) (lookup (nat_eq y) ps)) c.read.ensures.lists)
    (c.in_ok-read.ensures.counted ∙ ap (λ image. c.args.self.now.work + length image) c.image_of.ensures)

pub returns-clause-range : goal.returns-clause-range
returns-clause-range c = own c
