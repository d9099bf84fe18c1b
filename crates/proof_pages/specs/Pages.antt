-- The page of an assertion.
-- Source: HTML; this project's own form.
-- The code adds each part to the end of a buffer, and writes the buffer when it is full.
use Rattle.std.specs.Prelude.{ℕ, zero, suc, ◌+◌, ◌-◌, ◌==◌, nat_le, nat_lt, Bool, true, false, not, ◌&&◌, ◌||◌, if◌then◌else◌, List, [], ◌∷◌, ◌++◌, length, get_or, map, flat_map, codes, Option, Some, None, option_map}
use Rattle.std.specs.List.{list_all, list_any}
use Rattle.names.specs.Codes.{codes_or_len}
use Rattle.scope.specs.Active.{before}
use Rattle.frame.specs.FrameOf.{hypotheses, mandatory_groups}
use Rattle.steps.specs.Rows.{no_row}
use Rattle.proof_pages.specs.Words.{Name, Stmt, Database, stmt_at, name_at, label_or_empty, Row}
use Rattle.proof_pages.specs.StepLines.{concat_texts}
use Rattle.proof_pages.specs.Colours.{Classes, class_of, expr_numbers, PageClasses, no_classes, page_classes_of_first}
use Rattle.proof_pages.specs.Notations.{coloured}
use Rattle.proof_pages.specs.TableRows.{row_rest, step_html}
use Rattle.proof_pages.specs.LabelPages.{linked_page, previous_of, next_of}
use Rattle.proof_pages.specs.Openings.{head_html, kind_at, kind_line, marked_at, description_part, expr_part}
use Rattle.proof_pages.specs.Sections.{group_html, axioms_html, cited_by_html}
use Rattle.proof_pages.specs.Partitions.{chosen_essential, chosen_marked, chosen_typecode, typecode_at}
use Rattle.proof_pages.specs.declared.contents.PageContents.{PageContents}
use Rattle.proof_pages.specs.declared.contents.ProofSteps.{ProofSteps}
use Rattle.proof_pages.specs.declared.notation.Notation.{Notation}

-- how a page shows symbols and labels: whether labels are links, the statements, the statements
-- without their proofs, the names of the symbols, the classes of the variables, their typecodes
pub record View : Type 0 where
  pub linked : Bool
  pub statements : Database
  pub bare : Database
  pub names : List Name
  pub by_symbol : List ℕ
  pub typecodes : List ℕ

abbrev pub view_of : Notation → View
view_of n = record {
  linked = n.is_linked;
  statements = n.statements.now;
  bare = n.frames.now.statements;
  names = n.frames.now.names;
  by_symbol = n.css_classes.now.by_symbol.items;
  typecodes = n.css_classes.now.page_typecodes.items;
}

-- ---- the start

-- on a page of a site the kind, and links to the index and to the assertions before and after
abbrev pub kind_part : View → List Bool → ℕ → List ℕ
kind_part v marks at =
    if v.linked then kind_line v.linked v.statements (kind_at v.statements at (marked_at marks at)) (previous_of v.statements at) (next_of v.statements at) else []

abbrev pub opening_html : View → PageContents → List ℕ
opening_html v k =
    head_html (label_or_empty (stmt_at v.statements k.at)) v.linked ++ kind_part v k.related.is_unproved.now k.at
    ++ description_part (linked_page v.linked v.statements v.bare) (option_map (λ d. d.now) k.related.description)
    ++ expr_part v.names v.by_symbol (expr_numbers v.names v.bare k.at)

-- ---- the frame

abbrev pub hypothesis_html : View → ℕ → List ℕ
hypothesis_html v position = codes "<tr><td>" ++ row_rest v.linked v.statements v.names v.by_symbol position (expr_numbers v.names v.bare position)

abbrev pub table_html : View → List ℕ → List ℕ
table_html v positions = codes "<table>\n<tbody>\n" ++ flat_map (hypothesis_html v) positions ++ codes "</tbody>\n</table>\n"

-- the `$e`, and the `$f` in a collapsed section; nothing if there are none
abbrev pub essential_part : View → List ℕ → List ℕ
essential_part v positions = if length positions == 0 then [] else codes "<h2>Hypotheses</h2>\n" ++ table_html v positions

abbrev pub floating_part : View → List ℕ → List ℕ
floating_part v positions =
    if length positions == 0 then [] else codes "<details>\n<summary>Floating hypotheses</summary>\n" ++ table_html v positions ++ codes "</details>\n"

abbrev pub hypotheses_part : View → List ℕ → List ℕ
hypotheses_part v positions =
    essential_part v (flat_map (chosen_essential v.statements true) positions) ++ floating_part v (flat_map (chosen_essential v.statements false) positions)

-- each variable of a group is in the other one
abbrev pub is_in : ℕ → List ℕ → Bool
is_in x list = list_any (λ y. y == x) list

abbrev pub is_within : List ℕ → List ℕ → Bool
is_within group other = list_all (λ x. is_in x other) group

-- .. which has further ones or stands before it
abbrev pub is_covered_by : List ℕ → List ℕ → Bool → Bool
is_covered_by group other earlier = is_within group other && (earlier || nat_lt (length group) (length other))

-- one of the first n groups covers the group at an index
abbrev pub is_covered_by_first : List (List ℕ) → ℕ → ℕ → Bool
is_covered_by_first groups index zero = false
is_covered_by_first groups index (suc n) =
    is_covered_by_first groups index n || is_covered_by (get_or groups index []) (get_or groups n []) (nat_lt n index)

-- the first n groups, without those that are part of another one
abbrev pub shown_groups : View → List (List ℕ) → ℕ → List ℕ
shown_groups v groups zero = []
shown_groups v groups (suc n) =
    shown_groups v groups n ++ (if is_covered_by_first groups n (length groups) then [] else group_html v.names v.by_symbol (get_or groups n []))

abbrev pub groups_part : View → List (List ℕ) → List ℕ
groups_part v groups =
    if length groups == 0 then [] else codes "<h2>Distinct variables</h2>\n<ul class=\"groups\">\n" ++ shown_groups v groups (length groups) ++ codes "</ul>\n"

-- the typecodes of the variables of the page, in their colours
abbrev pub typecode_html : Classes → List Name → ℕ → List ℕ
typecode_html T names typecode = codes " " ++ coloured (class_of T typecode) (name_at names typecode)

abbrev pub legend_html : Classes → List Name → List ℕ → List ℕ
legend_html T names typecodes =
    if length typecodes == 0 then [] else codes "<p class=\"legend\">Variables:" ++ flat_map (typecode_html T names) typecodes ++ codes "</p>\n"

-- the mandatory hypotheses and groups of the assertion at a position
abbrev pub hypotheses_of : Database → Option Stmt → List ℕ
hypotheses_of F None = []
hypotheses_of F (Some s) = hypotheses F s

abbrev pub groups_of : Database → Option Stmt → List (List Name)
groups_of F None = []
groups_of F (Some s) = mandatory_groups F s

abbrev pub hypotheses_at : Database → ℕ → List ℕ
hypotheses_at F at = hypotheses_of (before F at) (stmt_at F at)

abbrev pub group_numbers : List Name → Database → ℕ → List (List ℕ)
group_numbers names F at = map (codes_or_len names) (groups_of (before F at) (stmt_at F at))

abbrev pub frame_html : View → List ℕ → PageContents → List ℕ
frame_html v positions k = hypotheses_part v positions ++ groups_part v (group_numbers v.names v.bare k.at) ++ legend_html k.typecodes.now v.names v.typecodes

-- ---- the proof

-- a table of steps; the ids of its rows have this prefix
abbrev pub table_start : List ℕ
table_start = codes "<table>\n<thead>\n<tr><th>Step</th><th>Takes</th><th>Cites</th><th>Expression</th></tr>\n</thead>\n<tbody>\n"

abbrev pub steps_html : View → List ℕ → List Row → List ℕ
steps_html v prefix rows = table_start ++ concat_texts (step_html v.linked v.statements v.names v.by_symbol prefix) 0 rows ++ codes "</tbody>\n</table>\n"

-- all steps in a collapsed section
abbrev pub collapsed_steps : View → List Row → List ℕ
collapsed_steps v rows = codes "<details>\n<summary>All steps</summary>\n" ++ steps_html v (codes "s") rows ++ codes "</details>\n"

abbrev pub all_steps_html : View → Bool → List Row → List ℕ
all_steps_html v all rows = if all then collapsed_steps v rows else []

-- the axioms of the theorem's own typecode, the theorems that are not proved, the other axioms
abbrev pub sorted_axioms_html : View → List Bool → ℕ → List ℕ → List ℕ
sorted_axioms_html v marks typecode axioms =
    let proved = flat_map (chosen_marked marks false) axioms in
    axioms_html v.linked v.statements (flat_map (chosen_typecode v.names v.bare typecode true) proved) (flat_map (chosen_marked marks true) axioms)
    (flat_map (chosen_typecode v.names v.bare typecode false) proved)

abbrev pub tables_html : View → Bool → ProofSteps → List ℕ
tables_html v all proof = codes "<h2>Proof</h2>\n" ++ steps_html v (codes "e") proof.essential.now ++ all_steps_html v all proof.steps.now

abbrev pub proof_html : View → Bool → PageContents → Option ProofSteps → List ℕ
proof_html v all k None = []
proof_html v all k (Some proof) = tables_html v all proof ++ sorted_axioms_html v k.related.is_unproved.now (typecode_at v.names v.bare k.at) k.related.axioms.now

-- ---- the whole page

abbrev pub cited_part : View → PageContents → List ℕ
cited_part v k = cited_by_html v.linked v.statements k.related.cited_by.now

-- the page of an assertion with these mandatory hypotheses
abbrev pub parts_html : View → List ℕ → Bool → PageContents → List ℕ
parts_html v positions all k =
    opening_html v k ++ frame_html v positions k ++ proof_html v all k k.proof ++ cited_part v k ++ codes "</body>\n</html>\n"

-- the classes of the variables of the page: those of the hypotheses, and those that a step cites
abbrev pub frame_classes : PageContents → List ℕ → PageClasses
frame_classes k positions =
    page_classes_of_first k.typecodes.now k.frames.now.names k.statements.now k.frames.now.statements (λ i. get_or positions i 0) no_classes (length positions)

abbrev pub with_steps : PageContents → PageClasses → Option ProofSteps → PageClasses
with_steps k C None = C
with_steps k C (Some proof) =
    page_classes_of_first k.typecodes.now k.frames.now.names k.statements.now k.frames.now.statements (λ i. (get_or proof.steps.now i no_row).step.position) C (length proof.steps.now)

abbrev pub page_classes : PageContents → List ℕ → PageClasses
page_classes k positions = with_steps k (frame_classes k positions) k.proof

abbrev pub page_view : Bool → PageContents → PageClasses → View
page_view linked k C = record {
  linked = linked;
  statements = k.statements.now;
  bare = k.frames.now.statements;
  names = k.frames.now.names;
  by_symbol = C.by_symbol;
  typecodes = C.typecodes;
}

-- the page of an assertion: alone or as one of a site, with all steps or without
unfoldable pub page_html : Bool → Bool → PageContents → List ℕ
page_html linked all k =
    let positions = hypotheses_at k.frames.now.statements k.at in
    parts_html (page_view linked k (page_classes k positions)) positions all k
