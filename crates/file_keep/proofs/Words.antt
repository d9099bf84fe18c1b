-- The names used in the proofs of this crate, re-exported from one place.
pub use Rattle.std.proofs.Common.{Bool, List, None, Option, Ordering, Less, Equal, Greater, Some, [], add-one, ap, append_assoc, arith, false, filter, is_lt, length, le_of_suc-le-suc, refl, rules, subst, suc, sym, take, true, true≢false, zero, ◌==◌, ℕ, ◌++◌, ◌+◌, ◌<◌, ◌≤◌, ◌∙◌, ◌∷◌, ◌≡◌}
pub use Rattle.sqlite_value.specs.Order.{Row, value_cmp}
pub use Rattle.sqlite_value.specs.declared.value.Value.{Value}
pub use Rattle.sqlite_value.specs.declared.value.Value.TheVariants.{Int}
pub use Rattle.sqlite_trees.specs.Tree.{Trees, IsTable, from_key, has_rowid, put_row, rowid, with_tree}
pub use Rattle.sqlite_trees.specs.View.{IsClean, View, doubt}
pub use Rattle.slots.specs.FiniteMap.{entry_at, put_at, trimmed}
pub use Rattle.file_keep.specs.Rows.{Content, Says, columns_in, number_of, node_row, row_at, rows_from, rows_of}
pub use Rattle.synod.specs.Record.{KeptPart}
