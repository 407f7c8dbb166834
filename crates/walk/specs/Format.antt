-- Which edition of the rules the code's name for one means.
use Rattle.rules.specs.Edition.{Edition, current}
use Rattle.rules.specs.Edition09.{edition09}
use Rattle.walk.specs.declared.format.Format.{Format}
use Rattle.walk.specs.declared.format.Format.TheVariants.{Current, Edition09}

abbrev pub edition_of : Format → Edition
edition_of Current = current
edition_of Edition09 = edition09
