-- A picture as data.
use Rattle.std.specs.Prelude.{ℕ, List, Option}
use Rattle.picture_text.specs.declared.parts.NodeBox.{NodeBox}
use Rattle.picture_text.specs.declared.parts.LinkLine.{LinkLine}
use Rattle.picture_text.specs.declared.parts.Arrow.{Arrow}
use Rattle.picture_text.specs.declared.parts.Size.{Size}

pub record Drawn : Type 0 where
  pub class : Option (List ℕ)
  pub size : Size
  pub boxes : List NodeBox
  pub links : List LinkLine
  pub arrows : List Arrow
