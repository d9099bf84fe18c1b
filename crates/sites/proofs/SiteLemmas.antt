-- The files of a site, written one after another.
use Rattle.sites.proofs.Words.{◌≡◌, ℕ, suc, ◌+◌, ◌<◌, ◌≤◌, List, [], ◌∷◌, ◌++◌, length, take, get_or, Result, Ok, Err, OnOk, sym, ◌∙◌, ap, subst, refl, arith, append_assoc, append-nil, take_more, length-take-le, Database, Stmt, Open, WritesPages, WritesFiles, IsPage, page_file, page_files, zero, Bool, map, IndexPage, file_of, index_files, items_of, WritesSite, STYLE_SHEET, codes}

-- ---- files, one after another

pub writes-then : {F : Type 0} (writes : F → List ℕ → List ℕ → F → Type 0) (is_page : ℕ → List ℕ → Type 0) (old mid new : F) (pages more : List (ℕ × List ℕ))
    → WritesPages writes is_page old pages mid → WritesPages writes is_page mid more new → WritesPages writes is_page old (pages ++ more) new
writes-then writes is_page old mid new [] more w v = subst (λ f. WritesPages writes is_page f more new) (sym w) v
writes-then writes is_page old mid new (page ∷ pages) more w v = (w.0, w.1, w.2, w.3, writes-then writes is_page w.1 mid new pages more w.4 v)

-- one page
pub writes-one : {F : Type 0} (writes : F → List ℕ → List ℕ → F → Type 0) (is_page : ℕ → List ℕ → Type 0) (old new : F) (at : ℕ) (name bytes : List ℕ) (pages : List (ℕ × List ℕ))
    → pages ≡ (at, name) ∷ [] → is_page at bytes → writes old name bytes new → WritesPages writes is_page old pages new
writes-one writes is_page old new at name bytes pages is page g = subst (λ l. WritesPages writes is_page old l new) (sym is) (bytes, new, page, g, refl)

-- the style sheet, the pages, and the index
pub site-written : {F T E : Type 0} (writes : F → List ℕ → List ℕ → F → Type 0) (opened styled paged new : F) (S : Database) (marks : List Bool) (text : List ℕ) (r : Result T E)
    → writes opened (codes "style.css") STYLE_SHEET.now styled → WritesPages writes (IsPage S marks text) styled (page_files 1 S) paged
    → OnOk r (WritesFiles writes paged (index_files S marks (items_of text)) new) → OnOk r (WritesSite writes S marks text new)
site-written writes opened styled paged new S marks text (Ok u) style pages index = record { opened = opened; styled = styled; paged = paged; style = style; pages = pages; index = index }
site-written writes opened styled paged new S marks text (Err e) style pages index = tt

-- one file, and then the others
pub files_on : {F : Type 0} (writes : F → List ℕ → List ℕ → F → Type 0) (old mid last : F) (page : IndexPage) (others rest : List IndexPage)
    → rest ≡ page ∷ others → writes old page.name.items page.bytes.items mid → WritesFiles writes mid (map file_of others) last → WritesFiles writes old (map file_of rest) last
files_on writes old mid last page others rest is g w = subst (λ r. WritesFiles writes old (map file_of r) last) (sym is) (mid, g, w)

-- ---- the pages of the first statements

names-last : (at : ℕ) (S : Database) (s : Stmt) → page_files at (S ++ s ∷ []) ≡ page_files at S ++ page_file (at + length S) s
names-last at [] s = append-nil (page_file at s) ∙ ap (λ n. page_file n s) (let e : at ≡ at + 0 = omega arith in e)
names-last at (t ∷ S) s =
    ap (λ l. page_file at t ++ l) (names-last (suc at) S s)
    ∙ (sym (append_assoc (page_file at t) (page_files (suc at) S) (page_file (suc at + length S) s))
    ∙ ap (λ n. (page_file at t ++ page_files (suc at) S) ++ page_file n s) (let e : suc at + length S ≡ at + suc (length S) = omega arith in e))

-- the page of one more statement
pub pages-next : {F : Type 0} (writes : F → List ℕ → List ℕ → F → Type 0) (is_page : ℕ → List ℕ → Type 0) (first mid new : F) (S : Database) (i : ℕ) → i < length S
    → WritesPages writes is_page first (page_files 1 (take i S)) mid → WritesPages writes is_page mid (page_file (i + 1) (get_or S i Open)) new → WritesPages writes is_page first (page_files 1 (take (i + 1) S)) new
pages-next writes is_page first mid new S i h w v =
    let count = length-take-le i S (omega (arith, h)) in
    let n : 1 + length (take i S) ≡ i + 1 = omega (arith, count) in
    let names : page_files 1 (take (i + 1) S) ≡ page_files 1 (take i S) ++ page_file (i + 1) (get_or S i Open) =
    ap (page_files 1) (take_more S i Open h) ∙ (names-last 1 (take i S) (get_or S i Open) ∙ ap (λ m. page_files 1 (take i S) ++ page_file m (get_or S i Open)) n) in
    subst (λ l. WritesPages writes is_page first l new) (sym names) (writes-then writes is_page first mid new (page_files 1 (take i S)) (page_file (i + 1) (get_or S i Open)) w v)
