-- Re-exports of the definitions of lower layers that the specs of this crate cite.
pub use Rattle.frame.specs.Below.{AreBelow}
pub use Rattle.frame.specs.Disjoint.{are_disjoint, are_groups_disjoint, is_list_disjoint}
pub use Rattle.frame.specs.FrameOf.{active_disjoint_lists, is_pair, together}
pub use Rattle.frame.specs.Parts.{Numbered}
pub use Rattle.frame.specs.Substitution.{CodeImages, Images, apply, code_apply, code_image, image, images_of_names}
pub use Rattle.mm_lex.specs.Alphabet.{Name, has_name, name_eq}
pub use Rattle.mm_read.specs.Statements.{Database, Expr}
pub use Rattle.names.specs.Codes.{AreCodes, AreDistinct, decode, name_at}
pub use Rattle.scope.specs.Active.{is_variable}
pub use Rattle.std.specs.List.{list_all, list_any}
pub use Rattle.std.specs.Map.{lookup}
