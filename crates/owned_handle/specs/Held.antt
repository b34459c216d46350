-- What a handle owns: nothing at null, and else what a box owns.
use base.Fml.{Fml, feq}
use denote.RattleType.{RattleType}
use denote.RawPtr.{Ptr, null_ptr}
use Rattle.std.specs.declared.option.Option.{Option}
use Rattle.std.specs.declared.option.Option.TheVariants.{None, Some}
use Rattle.std.specs.declared.alloc.Global.{Global}
use Rattle.std.specs.contracts.impls.GlobalAllocator.TheImpl.{ghosts}
use Rattle.std_alloc.specs.Box.Ownership.{box_owns}

module _ (R : RattleType) (a : Global) where
  abbrev pub boxed : Ptr → R.Denot → Fml
  boxed = box_owns (ghosts.dealloc_token a) R

  abbrev pub held : Ptr → Option R.Denot → Fml
  held p None = feq Ptr p null_ptr
  held p (Some x) = boxed p x
