-- The vocabulary of the logic that nearly every proof uses, exported from one file: numbers and their arithmetic, what closes small needs, equality, alternatives, truth values, options and lists.
pub use Prim.Native.Nat.{ℕ, zero, suc, ◌+◌, ◌-◌, ◌*◌, ◌/◌, ◌%◌, ◌≤◌, ◌<◌}
pub use native.Mathlib.Numerals.{add-one}
pub use native.Mathlib.Omega.{arith}
pub use borrow.Author.Rules.{rules}
pub use borrow.Author.Count.{below_more}
pub use mathlib.Core.Path.{◌≡◌, refl, sym, ap, subst, ◌∙◌}
pub use mathlib.Core.Logic.{◌⊎◌, inl, inr, ⊎_elim, ◌↔◌}
pub use mathlib.Core.Bool.{Bool, true, false, cond, not, ◌&&◌, ◌||◌}
pub use lib.Dec.{ltb, leb, eqb}
pub use mathlib.Core.Option.{Option, none, some, map as option_map, get_or as option_get_or}
pub use mathlib.Core.List.{List, [], ◌∷◌, ◌++◌}
pub use lib.ListN.{length, get_or, take, drop, set, replicate, length-append, length-take, length-set, length-replicate}
pub use lib.Seq.{get_or-set_same, get_or-set_other}
