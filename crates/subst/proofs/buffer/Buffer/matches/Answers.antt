use Rattle.subst.proofs.Words.{◌≡◌, ℕ, List, ◌++◌, drop, sym, ◌∙◌, ap, take-append-drop, code_apply, images_at, symbols_in}
use Rattle.subst.proofs.SymbolRangeLemmas.{seen-more}
use Rattle.subst.proofs.MatchLemmas.{apply-more}
use Rattle.subst.proofs.buffer.Buffer.matches.Goals as goal

pub returns : goal.returns
returns c =
    let a = c.args in
    let more : List ℕ = drop c.self.inside.len c.self.inside.symbols.items in
    let parts : c.deref.result.now ≡ a.self.now ++ more = c.deref.ensures.value ∙ (sym (take-append-drop c.self.inside.len c.self.inside.symbols.items) ∙ ap (λ s. s ++ more) c.self.view_is) in
    let seen : symbols_in c.deref.result.now a.range ≡ symbols_in a.self.now a.range =
    ap (λ s. symbols_in s a.range) parts ∙ seen-more a.self.now more a.range c.requires.range.0 c.requires.range.1 in
    let same : code_apply (images_at c.deref.result.now a.images.now) a.expr.now ≡ code_apply (images_at a.self.now a.images.now) a.expr.now =
    ap (λ s. code_apply (images_at s a.images.now) a.expr.now) parts ∙ apply-more a.self.now more a.images.now a.expr.now c.requires.inside in
    (λ yes. sym seen ∙ (c.matches.ensures.0 yes ∙ same), λ equal. c.matches.ensures.1 (seen ∙ (equal ∙ sym same)))
