use Rattle.frame.proofs.Words.{◌∙◌, sym, arith, [], get_or_past, name_at-get_or, names_in}
use Rattle.frame.proofs.frames.Frames.symbol.Goals as goal

pub returns-else-number-symbol_count : goal.returns-else-number-symbol_count
returns-else-number-symbol_count c =
    let names = names_in c.self.inside.storage in
    rw (← c.self.view_is) (sym (name_at-get_or names c.args.number ∙ get_or_past names c.args.number [] (omega (arith, c.symbol_count.ensures, c.if-number-symbol_count.false))))
