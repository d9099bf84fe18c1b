-- Rows, items and pages, one after another.
use Rattle.std.specs.Prelude.{◌≡◌, ℕ, suc, ◌+◌, ◌<◌, ◌≤◌, Bool, List, [], ◌∷◌, ◌++◌, get_or, length, map}
use Rattle.std.specs.Global.{Vec}
use Rattle.std.proofs.Common.{ap, sym, ◌∙◌, append_assoc, arith, drop}
use Rattle.std.proofs.Math.ListN.{drop_of_length-le}
use Rattle.std.proofs.Math.Seq.{drop-cons}
use Rattle.std.proofs.lemmas.List.{append-nil, length-map, map-append}
use Rattle.mm_lex.specs.Alphabet.{Name}
use Rattle.mm_read.specs.Statements.{Database, Expr}
use Rattle.markup.specs.IndexItems.{item_view}
use Rattle.markup.specs.declared.items.IndexItem.{IndexItem}
use Rattle.markup.specs.PagedRows.{Paged, with_row, all_pages}
use Rattle.markup.specs.Rows.{assertion_row, heading_row, part_entry}
use Rattle.markup.specs.Drafts.{IndexState, with_assertion, with_heading, with_item, with_items}
use Rattle.markup.specs.Pages.{File, file_of, family_files, files_of_family, index_file_of, list_family, part_files, state_files}
use Rattle.markup.specs.declared.family.Family.{Family}
use Rattle.markup.specs.declared.pages.IndexPage.{IndexPage}

-- ---- rows

-- one more page
pub full_more : (full new : List (Vec ℕ)) (last : Vec ℕ) → new ≡ full ++ last ∷ [] → map (λ (v : Vec ℕ). v.items) new ≡ map (λ (v : Vec ℕ). v.items) full ++ last.items ∷ []
full_more full new last is = ap (map (λ (v : Vec ℕ). v.items)) is ∙ map-append (λ (v : Vec ℕ). v.items) full (last ∷ [])

pub full_count : (full : List (Vec ℕ)) → length full ≡ length (map (λ (v : Vec ℕ). v.items) full)
full_count full = sym (length-map full (λ (v : Vec ℕ). v.items))

-- ---- items

-- the row and the entry of a heading
pub heading_is : (state : IndexState) (rows parts : Paged) (number page level : ℕ) (title row entry : List ℕ) → number ≡ state.headings + 1 → row ≡ heading_row number level title
    → rows ≡ with_row state.rows row → page ≡ length rows.full + 1 → entry ≡ part_entry page number level title → parts ≡ with_row state.parts entry
    → let new : IndexState = record { rows = rows; parts = parts; headings = number } in new ≡ with_heading state level title
heading_is state rows parts number page level title row entry is_number is_row is_rows is_page is_entry is_parts =
    let n : number ≡ state.headings + 1 = is_number in
    let r : rows ≡ with_row state.rows (heading_row (state.headings + 1) level title) = is_rows ∙ ap (with_row state.rows) (is_row ∙ ap (λ k. heading_row k level title) n) in
    let p : page ≡ length (with_row state.rows (heading_row (state.headings + 1) level title)).full + 1 = is_page ∙ ap (λ (d : Paged). length d.full + 1) r in
    let e : entry ≡ part_entry (length (with_row state.rows (heading_row (state.headings + 1) level title)).full + 1) (state.headings + 1) level title =
    is_entry ∙ (ap (λ k. part_entry k number level title) p ∙ ap (λ k. part_entry (length (with_row state.rows (heading_row (state.headings + 1) level title)).full + 1) k level title) n) in
    let q : parts ≡ with_row state.parts (part_entry (length (with_row state.rows (heading_row (state.headings + 1) level title)).full + 1) (state.headings + 1) level title) = is_parts ∙ ap (with_row state.parts) e in
    cc

-- the row of an assertion
pub assertion_is : (state : IndexState) (rows : Paged) (kind : List ℕ) (label : Name) (expr : Expr) (index position : ℕ) (row : List ℕ) → position ≡ index + 1
    → row ≡ assertion_row kind label expr position → rows ≡ with_row state.rows row
    → let new : IndexState = record { rows = rows; parts = state.parts; headings = state.headings } in new ≡ with_assertion state (assertion_row kind label expr (index + 1))
assertion_is state rows kind label expr index position row is_position is_row is_rows =
    let r : rows ≡ with_row state.rows (assertion_row kind label expr (index + 1)) = is_rows ∙ ap (with_row state.rows) (is_row ∙ ap (assertion_row kind label expr) is_position) in
    cc

-- the bytes that were appended to a new buffer
pub filled : (old new text slice : List ℕ) → slice ≡ new → new ≡ old ++ text → old ≡ [] → slice ≡ text
filled old new text slice is added none = is ∙ (added ∙ ap (λ l. l ++ text) none)

-- one more item
pub items_next : (S : Database) (marks : List Bool) (old new whole : IndexState) (items : List IndexItem) (i : ℕ) (d : IndexItem) → i < length items
    → with_items S marks old (map item_view (drop i items)) ≡ whole → new ≡ with_item S marks old (item_view (get_or items i d)) → with_items S marks new (map item_view (drop (i + 1) items)) ≡ whole
items_next S marks old new whole items i d within inv step =
    let more : i + 1 ≡ suc i = omega arith in
    ap (λ state. with_items S marks state (map item_view (drop (i + 1) items))) step
    ∙ (ap (λ n. with_items S marks (with_item S marks old (item_view (get_or items i d))) (map item_view (drop n items))) more
    ∙ (ap (λ r. with_items S marks old (map item_view r)) (sym (drop-cons items i d within)) ∙ inv))

-- no item is left
pub items_end : (S : Database) (marks : List Bool) (state whole : IndexState) (items : List IndexItem) (i : ℕ) → length items ≤ i
    → with_items S marks state (map item_view (drop i items)) ≡ whole → state ≡ whole
items_end S marks state whole items i past inv = ap (λ r. with_items S marks state (map item_view r)) (sym (drop_of_length-le items {i = i} past)) ∙ inv

-- ---- pages

-- one more file
pub file_more : (pages new : List IndexPage) (page : IndexPage) → new ≡ pages ++ page ∷ [] → map file_of new ≡ map file_of pages ++ file_of page ∷ []
file_more pages new page is = ap (map file_of) is ∙ map-append file_of pages (page ∷ [])

-- one more page of a family
pub family_on : (family : Family) (number next count : ℕ) (rows : Vec ℕ) (others rest : List (Vec ℕ)) (bytes : List ℕ) (list new whole : List File) → rest ≡ rows ∷ others → bytes ≡ rows.items
    → list ++ family_files family number count (map (λ (v : Vec ℕ). v.items) rest) ≡ whole → new ≡ list ++ index_file_of family number count bytes ∷ [] → next ≡ number + 1
    → new ++ family_files family next count (map (λ (v : Vec ℕ). v.items) others) ≡ whole
family_on family number next count rows others rest bytes list new whole is same inv added step =
    ap (λ l. l ++ family_files family next count (map (λ (v : Vec ℕ). v.items) others)) added
    ∙ (append_assoc list (index_file_of family number count bytes ∷ []) (family_files family next count (map (λ (v : Vec ℕ). v.items) others))
    ∙ (ap (λ n. list ++ (index_file_of family number count bytes ∷ family_files family n count (map (λ (v : Vec ℕ). v.items) others))) step
    ∙ (ap (λ b. list ++ (index_file_of family number count b ∷ family_files family (number + 1) count (map (λ (v : Vec ℕ). v.items) others))) same
    ∙ (ap (λ r. list ++ family_files family number count (map (λ (v : Vec ℕ). v.items) r)) (sym is) ∙ inv))))

-- no page is left
pub family_end : (family : Family) (number count : ℕ) (rest : List (Vec ℕ)) (list whole : List File) → rest ≡ []
    → list ++ family_files family number count (map (λ (v : Vec ℕ). v.items) rest) ≡ whole → list ≡ whole
family_end family number count rest list whole none inv =
    sym (append-nil list) ∙ (ap (λ r. list ++ family_files family number count (map (λ (v : Vec ℕ). v.items) r)) (sym none) ∙ inv)

-- the list and the parts of a state
pub pages_are : (state whole : IndexState) (family : Family) (rows parts : List (List ℕ)) (first second : List File) → state ≡ whole → family ≡ list_family state.headings
    → rows ≡ all_pages state.rows → parts ≡ all_pages state.parts → first ≡ files_of_family family rows → second ≡ first ++ part_files state.headings parts → second ≡ state_files whole
pages_are state whole family rows parts first second same is_family is_rows is_parts is_first is_second =
    is_second
    ∙ (ap (λ l. l ++ part_files state.headings parts) (is_first ∙ (ap (λ f. files_of_family f rows) is_family ∙ ap (files_of_family (list_family state.headings)) is_rows))
    ∙ (ap (λ p. files_of_family (list_family state.headings) (all_pages state.rows) ++ part_files state.headings p) is_parts ∙ ap state_files same))
