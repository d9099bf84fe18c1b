-- What the page of an assertion shows.
-- Source: this project's own form.
-- The code asks the library for each part of the page.
use Rattle.std.specs.Prelude.{◌≡◌, ℕ, ◌-◌, Bool, true, false, List, [], Option, Some, None, option_map, slice_get}
use Rattle.std.specs.Global.{Vec}
use Rattle.mm_lex.specs.Alphabet.{Name, word}
use Rattle.mm_lex.specs.declared.span.Span.{Span}
use Rattle.mm_read.specs.Reads.{Reads}
use Rattle.mm_read.specs.Statements.{Database}
use Rattle.scope.specs.Active.{bares}
use Rattle.library.specs.Good.{Good}
use Rattle.library.specs.Uses.{HasItems, IsAxiomAt, IsUser, Uses}
use Rattle.library.specs.Words.{Item}
use Rattle.places.specs.Descriptions.{AreDescriptions}
use Rattle.steps.specs.Essential.{AreEssential}
use Rattle.steps.specs.Rows.{AreRows, steps_of}
use Rattle.steps.specs.StepTable.{AreSteps}
use Rattle.proof_pages.specs.Colours.{classes_of}
use Rattle.proof_pages.specs.Pages.{page_html}
use Rattle.proof_pages.specs.declared.contents.PageContents.{PageContents}
use Rattle.proof_pages.specs.declared.contents.ProofSteps.{ProofSteps}
use Rattle.sites.specs.PassState.{lists_of}
use Rattle.sites.specs.References.{ArePositionsWhere, AreReferences}
use Rattle.sites.specs.declared.assertion_page.PageSources.{PageSources}

-- the steps that the page of the assertion at a position shows: none of a `$a`; of a `$p` those of
-- the items that its tokens write
abbrev pub IsShownProof : Database → ℕ → List Name → Option ProofSteps → Type 0
IsShownProof S at names None = IsAxiomAt S at
IsShownProof S at names (Some proof) =
    (items : List Item) × HasItems S at items × AreSteps (bares S) at items (steps_of proof.steps.now) × AreRows (bares S) at names proof.steps.now
    × AreEssential (bares S) proof.steps.now proof.essential.now

-- the bytes of the span of a description, if there is one
abbrev pub description_or_none : List ℕ → Option (Option Span) → Option (List ℕ)
description_or_none text None = None
description_or_none text (Some None) = None
description_or_none text (Some (Some s)) = Some (word text s)

-- the description of the statement at an index, if these are the spans of the descriptions
abbrev pub description_at : List ℕ → List (Option Span) → ℕ → Option (List ℕ)
description_at text spans index = description_or_none text (slice_get spans index)

-- the spans of the descriptions of the statements that the text reads as
abbrev pub AreSpans : List ℕ → List (Option Span) → Type 0
AreSpans text spans = (S : Database) → Reads text S → AreDescriptions text S spans

-- the description of the statement at a position of a text
abbrev pub IsDescription : List ℕ → ℕ → Option (List ℕ) → Type 0
IsDescription text at description = (spans : List (Option Span)) × AreSpans text spans × (description ≡ description_at text spans (at - 1))

-- the positions of a list, or none if there is no list
abbrev pub items_or_none : Option (Vec ℕ) → List ℕ
items_or_none None = []
items_or_none (Some list) = list.items

-- the contents of the page of the assertion at a position: the steps of its proof, the `$a` that it
-- rests on, the `$p` that cite it, and its description; the marks tell which theorems are not proved
pub record AreContents (S : Database) (marks : List Bool) (text : List ℕ) (at : ℕ) (k : PageContents) : Type 0 where
  pub statements : k.statements.now ≡ S
  pub frames : k.frames.now.statements ≡ bares S
  pub typecodes : k.typecodes.now ≡ classes_of k.frames.now.names S (bares S)
  pub position : k.at ≡ at
  pub proof : IsShownProof S at k.frames.now.names k.proof
  pub axioms : ArePositionsWhere (Uses S at) k.related.axioms.now
  pub cited_by : ArePositionsWhere (IsUser S false at) k.related.cited_by.now
  pub marked : k.related.is_unproved.now ≡ marks
  pub described : IsDescription text at (option_map (λ d. d.now) k.related.description)

-- the page of the assertion at a position
pub record IsPage (S : Database) (marks : List Bool) (text : List ℕ) (at : ℕ) (bytes : List ℕ) : Type 0 where
  pub contents : PageContents
  pub are : AreContents S marks text at contents
  pub html : bytes ≡ page_html true false contents

-- the library of the sources of pages
abbrev pub database_of : PageSources → Database
database_of sources = sources.site.now.library.now.replica.statements

-- .. and the page that is made from them
abbrev pub IsPageOf : PageSources → ℕ → List ℕ → Type 0
IsPageOf sources at bytes = IsPage (database_of sources) sources.site.now.is_unproved.now sources.site.now.text.now at bytes

-- the sources of pages are those of the library and the text
pub record ArePageSources (sources : PageSources) : Type 0 where
  pub good : Good (database_of sources)
  pub frames : sources.frames.now.statements ≡ bares (database_of sources)
  pub typecodes : sources.typecodes ≡ classes_of sources.frames.now.names (database_of sources) (bares (database_of sources))
  pub references : AreReferences (database_of sources) (lists_of sources.references.axioms.items) (lists_of sources.references.cited_by.items)
  pub spans : AreSpans sources.site.now.text.now sources.descriptions.items
