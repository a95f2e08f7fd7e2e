-- The role of an entry, as it is kept in memory.
use Rattle.std.specs.Prelude.{◌≡◌, ℕ, List}
use Rattle.std.specs.declared.option.Option.{Option}
use Rattle.std.specs.declared.option.Option.TheVariants.{None, Some}
use Rattle.spec_folder.specs.Entries as entries
use Rattle.blk_ranges.specs.ChildNames.{name_within}
use Rattle.blk_ranges.specs.ParentMaps.{head_fields}
use Rattle.blk_verdict.specs.declared.roles.Role.{Role}
use Rattle.blk_verdict.specs.declared.roles.Role.TheVariants.{Plain, Parent, Part}

-- a role in memory is that of an entry of the model with this key: of a parent it has generation and key length, of a part the name in its key
abbrev pub IsRole : List ℕ → entries.Role → Role → Type 0
IsRole key entries.IsPlain Plain = Unit {0}
IsRole key entries.IsPlain (Parent head) = ⊥
IsRole key entries.IsPlain (Part said) = ⊥
IsRole key (entries.IsParent index) Plain = ⊥
IsRole key (entries.IsParent index) (Parent head) = head_fields head ≡ (index.signature, index.key_len)
IsRole key (entries.IsParent index) (Part said) = ⊥
IsRole key (entries.IsPart name index) Plain = ⊥
IsRole key (entries.IsPart name index) (Parent head) = ⊥
IsRole key (entries.IsPart name index) (Part said) = name_within key said ≡ name

-- the two roles agree as IsRole says, or neither is there
abbrev pub IsRoleIf : List ℕ → Option entries.Role → Option Role → Type 0
IsRoleIf key None None = Unit {0}
IsRoleIf key None (Some said) = ⊥
IsRoleIf key (Some role) None = ⊥
IsRoleIf key (Some role) (Some said) = IsRole key role said
