-- The tags of a document's words.
use Rattle.std.specs.Prelude.{List}
use Rattle.pq_model.specs.Buckets.{Instance}
use Rattle.pq_query.specs.Languages.{IsHeld}
use Rattle.pq_query.specs.Query.{QueryTree}
use Rattle.pq_auto.specs.Machine.{Machine}
use Rattle.pq_letters.specs.Letters.{LettersValue}
use Rattle.pq_classes.specs.Told.{AreClasses}
use Rattle.pq_layout.specs.Tagging.{IsTagging}
use Rattle.pq_join.specs.Tags.{tagging_of}

-- the classes of queries' words give their tags
abbrev pub ClassesTag : Type 0
ClassesTag =
    (qs : List QueryTree) (is : List Instance) (a : LettersValue) (m : Machine) → AreClasses (IsHeld qs is) a m → IsTagging (IsHeld qs is) (tagging_of a m)
