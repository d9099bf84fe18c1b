use Rattle.frame.proofs.Words.{◌∙◌, sym, ap, true≢false, ◌≡◌, ℕ, ◌-◌, false, List, Option, Some, None, IfSome, IfNone, length, Name, has_name, is_variable, IsNumberOf, code_of, AreDistinct, Numbered, names_in, labels_in, statements_of, code-at, code-absent, has-at}
use Rattle.frame.proofs.DeclaredSymbolLemmas.{no-number}
use Rattle.frame.proofs.NamingLemmas.{stored-naming}
use Rattle.frame.proofs.PairsLemmas.{unnamed-none}
use Rattle.frame.proofs.pairs.Pairs.number.Goals as goal

is-code : (r : Option ℕ) (names : List Name) (x : Name) → AreDistinct names → IfSome r (λ n. IsNumberOf names x n) → IfNone r (has_name x names ≡ false) → r ≡ code_of names x
is-code (Some n) names x d found none = sym (code-at names x n d found.0 found.1)
is-code None names x d found none = sym (code-absent names x (λ k h e. true≢false (sym (has-at names x k h e) ∙ none)))

where_none : {P Q : Type 0} (r : Option ℕ) → (P → Q) → IfNone r P → IfNone r Q
where_none (Some n) f p = tt
where_none None f p = f p

pub returns-clause-number : goal.returns-clause-number
returns-clause-number c =
    let k = c.self.inside.storage.now in
    let x = c.args.name.now in
    let own = stored-naming k c.self.invariant.0 in
    is-code c.symbol_number.result (names_in k) x c.self.invariant.1 c.symbol_number.ensures.found
    (where_none c.symbol_number.result (no-number (statements_of k) k.numbering x own.kinds_match own.symbols) c.symbol_number.ensures.none)
    ∙ ap (λ (v : Numbered). code_of v.names x) c.self.view_is

pub returns-clause-unnamed : goal.returns-clause-unnamed
returns-clause-unnamed c =
    let k = c.self.inside.storage.now in
    let x = c.args.name.now in
    let own = stored-naming k c.self.invariant.0 in
    where_none c.symbol_number.result
    (λ none. ap (λ (v : Numbered). is_variable v.statements x) (sym c.self.view_is)
    ∙ unnamed-none (names_in k) (labels_in k) (length (labels_in k)) (c.self.inside.at - 1) x k.entries (no-number (statements_of k) k.numbering x own.kinds_match own.symbols none) c.self.invariant.0.kept.coded)
    c.symbol_number.ensures.none
