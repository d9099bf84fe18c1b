-- The machine of `ReaderStates` passes over each list of statements, and is then between statements
-- again.
use Rattle.mm_read.proofs.Words.{◌≡◌, ℕ, ◌≤◌, zero, suc, true, false, ◌&&◌, cond, List, [], ◌∷◌, ◌++◌, length, Some, None, codes, list_all, option_and_then, sym, ◌∙◌, ap, arith, refl, true≢false, append_assoc, and_parts, Name, name_eq, is_symbol, is_label, has_byte, Stmt, Open, Close, Const, Var, Disj, Float, Ess, Axiom, Prove, Database, is_shaped, are_symbols, has_two, stmt_tokens, tokens_of}
use Rattle.mm_read.proofs.StatementsLemmas.{label_plain, symbols_of, append_middle, plain_is_no_key}
use Rattle.mm_read.proofs.ReaderStates.{between, labelled, listing, floating, proving, step, go}

step-label : (label : Name) → is_label label ≡ true → step between label ≡ Some labelled
step-label label h =
    let plain : has_byte 36 label ≡ false = label_plain label h in
    let open_no : name_eq label (codes "${") ≡ false = plain_is_no_key label (codes "${") plain refl in
    let close_no : name_eq label (codes "$}") ≡ false = plain_is_no_key label (codes "$}") plain refl in
    let const_no : name_eq label (codes "$c") ≡ false = plain_is_no_key label (codes "$c") plain refl in
    let var_no : name_eq label (codes "$v") ≡ false = plain_is_no_key label (codes "$v") plain refl in
    let disj_no : name_eq label (codes "$d") ≡ false = plain_is_no_key label (codes "$d") plain refl in
    rw (open_no, close_no, const_no, var_no, disj_no, h) refl

pub go-label : (label : Name) (tokens : List Name) → is_label label ≡ true → go between (label ∷ tokens) ≡ go labelled tokens
go-label label tokens h = ap (option_and_then (λ p. go p tokens)) (step-label label h)

-- a list in which no more symbols are required may have any number of them
pub go-symbols : (ws tokens : List Name) → list_all is_symbol ws ≡ true → go (listing 0) (ws ++ tokens) ≡ go (listing 0) tokens
go-symbols [] tokens h = refl
go-symbols (w ∷ ws) tokens h =
    let parts : (is_symbol w ≡ true) × (list_all is_symbol ws ≡ true) = and_parts (is_symbol w) (list_all is_symbol ws) h in
    ap (λ b. option_and_then (λ p. go p (ws ++ tokens)) (cond b (Some (listing 0)) (cond (name_eq w (codes "$.")) (Some between) None))) parts.0 ∙ go-symbols ws tokens parts.1

pub go-listing : (n : ℕ) (ws tokens : List Name) → list_all is_symbol ws ≡ true → n ≤ length ws → go (listing n) (ws ++ tokens) ≡ go (listing 0) tokens
go-listing zero ws tokens h many = go-symbols ws tokens h
go-listing (suc n) [] tokens h many = absurd (omega (arith, many))
go-listing (suc n) (w ∷ ws) tokens h many =
    let parts : (is_symbol w ≡ true) × (list_all is_symbol ws ≡ true) = and_parts (is_symbol w) (list_all is_symbol ws) h in
    ap (λ b. option_and_then (λ p. go p (ws ++ tokens)) (cond b (Some (listing n)) None)) parts.0 ∙ go-listing n ws tokens parts.1 (omega (arith, many))

go-proving_any : (ws tokens : List Name) → list_all is_symbol ws ≡ true → go (proving 0) (ws ++ tokens) ≡ go (proving 0) tokens
go-proving_any [] tokens h = refl
go-proving_any (w ∷ ws) tokens h =
    let parts : (is_symbol w ≡ true) × (list_all is_symbol ws ≡ true) = and_parts (is_symbol w) (list_all is_symbol ws) h in
    ap (λ b. option_and_then (λ p. go p (ws ++ tokens)) (cond b (Some (proving 0)) (cond (name_eq w (codes "$=")) (Some (listing 0)) None))) parts.0 ∙ go-proving_any ws tokens parts.1

pub go-proving : (n : ℕ) (ws tokens : List Name) → list_all is_symbol ws ≡ true → n ≤ length ws → go (proving n) (ws ++ tokens) ≡ go (proving 0) tokens
go-proving zero ws tokens h many = go-proving_any ws tokens h
go-proving (suc n) [] tokens h many = absurd (omega (arith, many))
go-proving (suc n) (w ∷ ws) tokens h many =
    let parts : (is_symbol w ≡ true) × (list_all is_symbol ws ≡ true) = and_parts (is_symbol w) (list_all is_symbol ws) h in
    ap (λ b. option_and_then (λ p. go p (ws ++ tokens)) (cond b (Some (proving n)) None)) parts.0 ∙ go-proving n ws tokens parts.1 (omega (arith, many))

-- a list of one or more symbols has length 1 or more
many_of : (ws : List Name) → are_symbols ws ≡ true → 1 ≤ length ws
many_of [] h = absurd (true≢false (sym h))
many_of (w ∷ ws) h = omega arith

-- a list of two or more symbols has length 2 or more
two_of : (ws : List Name) → has_two ws ≡ true → 2 ≤ length ws
two_of [] h = absurd (true≢false (sym h))
two_of (w ∷ []) h = absurd (true≢false (sym h))
two_of (w ∷ v ∷ ws) h = omega arith

go-list : (n : ℕ) (ws tokens : List Name) → list_all is_symbol ws ≡ true → n ≤ length ws → go (listing n) ((ws ++ codes "$." ∷ []) ++ tokens) ≡ go between tokens
go-list n ws tokens h many = ap (go (listing n)) (append_middle ws (codes "$.") [] tokens) ∙ go-listing n ws (codes "$." ∷ tokens) h many

go-statement : (s : Stmt) (tokens : List Name) → is_shaped s ≡ true → go between (stmt_tokens s ++ tokens) ≡ go between tokens
go-statement Open tokens h = refl
go-statement Close tokens h = refl
go-statement (Const ws) tokens h = go-list 1 ws tokens (symbols_of ws h) (many_of ws h)
go-statement (Var ws) tokens h = go-list 1 ws tokens (symbols_of ws h) (many_of ws h)
go-statement (Disj ws) tokens h =
    let parts : (are_symbols ws ≡ true) × (has_two ws ≡ true) = and_parts (are_symbols ws) (has_two ws) h in
    go-list 2 ws tokens (symbols_of ws parts.0) (two_of ws parts.1)
go-statement (Float label c v) tokens h =
    let outer : ((is_label label && is_symbol c) ≡ true) × (is_symbol v ≡ true) = and_parts (is_label label && is_symbol c) (is_symbol v) h in
    let inner : (is_label label ≡ true) × (is_symbol c ≡ true) = and_parts (is_label label) (is_symbol c) outer.0 in
    go-label label (codes "$f" ∷ c ∷ v ∷ codes "$." ∷ tokens) inner.0
    ∙ (ap (λ b. option_and_then (λ p. go p (v ∷ codes "$." ∷ tokens)) (cond b (Some (floating 1)) None)) inner.1
    ∙ ap (λ b. option_and_then (λ p. go p (codes "$." ∷ tokens)) (cond b (Some (floating 0)) None)) outer.1)
go-statement (Ess label ws) tokens h =
    let parts : (is_label label ≡ true) × (are_symbols ws ≡ true) = and_parts (is_label label) (are_symbols ws) h in
    go-label label (codes "$e" ∷ ((ws ++ codes "$." ∷ []) ++ tokens)) parts.0 ∙ go-list 1 ws tokens (symbols_of ws parts.1) (many_of ws parts.1)
go-statement (Axiom label ws) tokens h =
    let parts : (is_label label ≡ true) × (are_symbols ws ≡ true) = and_parts (is_label label) (are_symbols ws) h in
    go-label label (codes "$a" ∷ ((ws ++ codes "$." ∷ []) ++ tokens)) parts.0 ∙ go-list 1 ws tokens (symbols_of ws parts.1) (many_of ws parts.1)
go-statement (Prove label ws proof) tokens h =
    let both : ((is_label label && are_symbols ws) ≡ true) × (list_all is_symbol proof ≡ true) = and_parts (is_label label && are_symbols ws) (list_all is_symbol proof) h in
    let parts : (is_label label ≡ true) × (are_symbols ws ≡ true) = and_parts (is_label label) (are_symbols ws) both.0 in
    go-label label (codes "$p" ∷ ((ws ++ codes "$=" ∷ (proof ++ codes "$." ∷ [])) ++ tokens)) parts.0
    ∙ (ap (go (proving 1)) (append_middle ws (codes "$=") (proof ++ codes "$." ∷ []) tokens)
    ∙ (go-proving 1 ws (codes "$=" ∷ ((proof ++ codes "$." ∷ []) ++ tokens)) (symbols_of ws parts.1) (many_of ws parts.1)
    ∙ go-list 0 proof tokens both.1 (omega arith)))

-- after the tokens of statements the machine is between statements again
pub go-tokens_of : (S : Database) (tokens : List Name) → list_all is_shaped S ≡ true → go between (tokens_of S ++ tokens) ≡ go between tokens
go-tokens_of [] tokens h = refl
go-tokens_of (s ∷ S) tokens h =
    let parts : (is_shaped s ≡ true) × (list_all is_shaped S ≡ true) = and_parts (is_shaped s) (list_all is_shaped S) h in
    ap (go between) (append_assoc (stmt_tokens s) (tokens_of S) tokens) ∙ (go-statement s (tokens_of S ++ tokens) parts.0 ∙ go-tokens_of S tokens parts.1)
