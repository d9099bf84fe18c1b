use Rattle.scope.proofs.Words.{◌≡◌, ◌∙◌, length, rules, vec_len, is_symbol_kind}
use Rattle.scope.proofs.EntryLemmas.{indexes-count}
use Rattle.scope.proofs.numbering.Numbering.symbol_count.Goals as goal

pub returns : goal.returns
returns c =
    let a = c.self.inside in
    let size : vec_len a.symbols ≡ length a.symbols.items = search rules in
    c.len.ensures ∙ (size ∙ indexes-count is_symbol_kind a.names a.entries.items a.symbols.items c.args.self.now c.self.invariant.same c.self.invariant.symbols_are c.self.view_is)
