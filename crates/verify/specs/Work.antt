-- The work of a proof: what it counts in the work of its text.
-- Source: this project's profile (docs/COSTS.md); Metamath, 4.2.6 and appendix B.
-- The code counts while it runs over ranges of one buffer; here the run is a recursion on the items,
-- over expressions. S are the statements before the theorem.
use Rattle.std.specs.Prelude.{ℕ, zero, suc, ◌+◌, ◌*◌, ◌-◌, Bool, nat_le, if◌then◌else◌, List, [], ◌∷◌, ◌++◌, length, map, flat_map, take, drop, Option, Some, None, option_map, slice_get}
use Rattle.std.specs.Cmp.Lexicographic.{pointwise}
use Rattle.std.specs.Option.{option_map_or}
use Rattle.std.specs.List.{list_all}
use Rattle.mm_lex.specs.Alphabet.{name_eq, is_label}
use Rattle.mm_read.specs.declared.stmt.Stmt.TheVariants.{Float}
use Rattle.scope.specs.Active.{has_label, is_active}
use Rattle.frame.specs.FrameOf.{mandatory_groups}
use Rattle.frame.specs.Disjoint.{are_groups_disjoint}
use Rattle.frame.specs.Sizes.{assertion_size}
use Rattle.frame.specs.DisjointWork.{disjointness}
use Rattle.proof_code.specs.ItemNumbers.{items_of}
use Rattle.proof_code.specs.Text.{ListAndRest, list_and_rest, numbers_from, starts_with_mark}
use Rattle.proof_code.specs.Reading.{share_label}
use Rattle.proof_code.specs.Writes.{is_compressed}
use Rattle.verify.specs.Words.{Name, Stmt, Expr, Database, before, stmt_at, expr_of, is_assertion, label_of, hypotheses, Images, applied, premises, Item, Cite, Recall, Mark}
use Rattle.verify.specs.Machine.{State, start, with_result, with_mark}
use Rattle.verify.specs.Right.{weight_limit}
use Rattle.verify.specs.Proves.{mandatory_labels}

-- ---- what is cited

-- the first of the statements that has the label, with its position, which counts from i
abbrev pub labelled_from : ℕ → Database → Name → Option (ℕ × Stmt)
labelled_from i [] label = None
labelled_from i (s ∷ S) label = if has_label label (label_of s) then Some (i, s) else labelled_from (i + 1) S label

-- the image that the result for a mandatory hypothesis gives: that for a `$f` gives its variable
-- what follows the typecode
abbrev pub image_from : Option Stmt → Expr → Images
image_from (Some (Float label typecode variable)) result = (variable, drop 1 result) ∷ []
image_from s result = []

-- the images that the results for mandatory hypotheses give, which stand at these positions
abbrev pub images_from : Database → List ℕ → List Expr → Images
images_from S (i ∷ positions) (result ∷ results) = image_from (stmt_at S i) result ++ images_from S positions results
images_from S positions results = []

-- whether the results are the substituted hypotheses of the assertion s at a: their typecodes and
-- `$e` fit
abbrev pub fit : Database → ℕ → Stmt → Images → List Expr → Bool
fit S a s σ results = pointwise (pointwise name_eq) results (premises S a s σ)

-- ---- items

-- what an item counts, and the results after it; `None` if it is at fault
pub record Outcome : Type 0 where
  pub work : ℕ
  pub after : Option State

-- an item at fault, which has no result
abbrev pub fault : ℕ → Outcome
fault cost = record { work = cost; after = None }

-- an item that counts this without its result, which is pushed onto the results `below`, unless the
-- proof is too heavy with it
abbrev pub pushed : ℕ → State → List Expr → Expr → Outcome
pushed cost st below e =
    if nat_le (st.weight + length e) weight_limit then record { work = cost + length e; after = Some (with_result st below e) } else fault cost

-- a citation of the assertion s at a, whose results fit: it counts 1, its size, its disjointness and
-- its result
abbrev pub conclude : Database → ℕ → Stmt → Images → State → List Expr → Outcome
conclude S a s σ st below =
    let cost = 1 + assertion_size (before S a) s + disjointness (before S a) s S σ in
    if are_groups_disjoint S σ (mandatory_groups (before S a) s) then pushed cost st below (applied σ (expr_of s)) else fault cost

-- a citation of the assertion s at a, which takes these results and leaves those below
abbrev pub take_results : Database → ℕ → Stmt → State → List Expr → List Expr → Outcome
take_results S a s st below results =
    let σ = images_from S (hypotheses (before S a) s) results in
    if fit S a s σ results then conclude S a s σ st below else fault (1 + assertion_size (before S a) s)

-- a citation of the assertion s at a, which takes as many results as it has mandatory hypotheses
abbrev pub cite_assertion : Database → ℕ → Stmt → State → Outcome
cite_assertion S a s st =
    let left = length st.stack - length (hypotheses (before S a) s) in
    take_results S a s st (take left st.stack) (drop left st.stack)

-- a citation of what a label names: an active hypothesis counts 1 and its result
abbrev pub cite : Database → Option (ℕ × Stmt) → State → Outcome
cite S None st = fault 1
cite S (Some (i, s)) st =
    if is_assertion s then cite_assertion S i s st
    else (if is_active S i (length S + 1) then pushed 1 st st.stack (expr_of s) else fault 1)

-- a recall counts 1 and the result that is recalled
abbrev pub recall : Option Expr → State → Outcome
recall None st = fault 1
recall (Some e) st = pushed 1 st st.stack e

-- a mark counts 1
abbrev pub mark : Option Expr → State → Outcome
mark None st = fault 1
mark (Some e) st = record { work = 1; after = Some (with_mark st e) }

-- the result that was saved as number k, from 1
abbrev pub saved_as : List Expr → ℕ → Option Expr
saved_as saved zero = None
saved_as saved (suc k) = slice_get saved k

-- an item after these results
abbrev pub step : Database → Item → State → Outcome
step S (Cite label) st = cite S (labelled_from 1 S label) st
step S (Recall k) st = recall (saved_as st.saved k) st
step S Mark st = mark (slice_get st.stack (length st.stack - 1)) st

-- the work of items after these results, up to the first that is at fault
abbrev pub items_work : Database → List Item → State → ℕ
items_work S [] st = 0
items_work S (item ∷ items) st =
    let outcome = step S item st in
    outcome.work + option_map_or (λ next. items_work S items next) outcome.after 0

-- ---- proofs

-- the items that letters write with these labels, or `None` if they write none
abbrev pub letter_items : List Name → List ℕ → Option (List Item)
letter_items labels letters =
    if starts_with_mark letters then None else option_map (items_of labels) (numbers_from (length labels) 0 letters)

-- the items of a compressed proof with these mandatory labels
abbrev pub compressed_items : List Name → Option ListAndRest → Option (List Item)
compressed_items mandatory None = None
compressed_items mandatory (Some parts) =
    if share_label mandatory parts.listed then None else letter_items (mandatory ++ parts.listed) (flat_map (λ token. token) parts.rest)

-- the labels between the parentheses
abbrev pub listed_count : Option ListAndRest → ℕ
listed_count None = 0
listed_count (Some parts) = length parts.listed

-- the items of a normal proof
abbrev pub normal_items : List Name → Option (List Item)
normal_items tokens = if list_all is_label tokens then Some (map (λ token. Cite token) tokens) else None

-- what items count after this for their tokens; nothing counts if the tokens are no proof code
abbrev pub written_work : Database → ℕ → Option (List Item) → ℕ
written_work S tokens_work None = 0
written_work S tokens_work (Some items) = tokens_work + items_work S items start

-- the work of the proof of the theorem s that the tokens are. A normal proof counts 16 for each
-- token; a compressed one 16 for each between the parentheses, and the size of the theorem
abbrev pub proof_work : Database → Stmt → List Name → ℕ
proof_work S s [] = 0
proof_work S s (token ∷ tokens) =
    if is_compressed (token ∷ tokens)
    then written_work S (16 * listed_count (list_and_rest tokens) + assertion_size S s) (compressed_items (mandatory_labels S (length S + 1) s) (list_and_rest tokens))
    else written_work S (16 * length (token ∷ tokens)) (normal_items (token ∷ tokens))
