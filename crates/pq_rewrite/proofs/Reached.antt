-- Each leaf of a diagram is reached by a packet, so what is known of a tree's values is known of its leaves.
use Rattle.std.proofs.Common.{◌≡◌, ◌∙◌, ℕ, Bool, true, false, List, [], refl, sym, subst, inl, inr, pow_pos}
use Rattle.std.specs.Prelude.{slice_index_or}
use Rattle.std.specs.List.{All}
use Rattle.std.proofs.lemmas.List.Elements.{All-contains_itself}
use Rattle.pq_fields.specs.declared.field.Field.{Field}
use Rattle.pq_fields.specs.Packet.{Numbers, Fit, width_of}
use Rattle.pq_fields.specs.Writes.{Written, AllFit}
use Rattle.pq_store.specs.declared.test.Test.{Test}
use Rattle.pq_store.specs.Tree.{Tree, value, past, IsPartOf}
use Rattle.pq_store.specs.Tree.Tree.{Tip, Fork}
use Rattle.pq_store.specs.Diagram.{IsDiagram}
use Rattle.pq_store.proofs.Point.{Point, answer, leaf_at, InRange}
use Rattle.pq_store.proofs.Points.{IsTurned, no_point, says_same, yes_point, yes_turns}
use Rattle.pq_store.proofs.Packets.{packet_of, packet_fits, value_packet_of}
use Rattle.pq_store.proofs.Past.{Misses, free_number, hit, miss, past_skips, room}
use Rattle.pq_store.proofs.Sides.{yes_diagram, no_diagram, past_diagram, past_before}
use Rattle.pq_store.proofs.Unique.{side}
use Rattle.pq_rewrite.specs.Rewriting.{IsIdleFree, Covers, CoversWrites}
use Rattle.pq_rewrite.specs.Sequence.{CoversLeaves}

-- the point whose numbers are 0
abbrev zero_point : Point
zero_point = record { number = λ f. 0; bit = λ f i. false }

module _ {L : Type 0} where
  -- a point in range reaches the leaf
  record IsReached (t : Tree L) (l : L) : Type 0 where
    point : Point
    in_range : InRange point
    reaches : leaf_at t point ≡ l

  -- the one leaf of a tip
  tip_reached : (l m : L) → Tip l ≡ Tip m → IsReached (Tip m) l
  tip_reached l m is = record { point = zero_point; in_range = λ f number. pow_pos (width_of f); reaches = cc }

  -- what a point reaches in the yes side, one that passes the test reaches in the whole
  yes_reached : (s : Test) (y n : Tree L) (l : L) → IsDiagram (Fork s y n) → IsReached y l → IsReached (Fork s y n) l
  yes_reached s y n l d r =
      let p : Point = r.point in
      let q : Point = yes_point s p in
      let turned : IsTurned s true p q = yes_turns s p d.lawful.0 r.in_range in
      record {
        point = q;
        in_range = turned.in_range;
        reaches = side s y n q true turned.answers ∙ sym (says_same s y p q turned.alike d.ascends.0 d.ascends.2 d.asks_once.0) ∙ r.reaches;
      }

  -- what a point that passes the test reaches in the no side, one that doesn't pass it reaches there too
  no_turned : (s : Test) (y n : Tree L) (p : Point) → IsDiagram (Fork s y n) → InRange p → answer s p ≡ true → IsReached (Fork s y n) (leaf_at n p)
  no_turned s y n p d range passed =
      let own : IsDiagram n = no_diagram s y n d in
      let free = free_number s n n [] (room s y n n d.fits own.fits) in
      let q : Point = no_point s free.0 p in
      let missed : Misses s n n p q = miss s n n free.0 p free.1 range in
      let same = says_same s (past s n) p q missed.turned.alike (past_before s s n d.ascends.1 own) (past_diagram s n own).ascends
      (past_skips s n d.lawful.0 d.ascends.1 own) in
      record {
        point = q;
        in_range = missed.turned.in_range;
        reaches = side s y n q false missed.turned.answers ∙ missed.left ∙ sym same ∙ sym (hit s n p passed d.ascends.1 own.ascends);
      }

  -- what a point reaches in the no side, a point reaches in the whole
  no_reached : (s : Test) (y n : Tree L) (l : L) → IsDiagram (Fork s y n) → IsReached n l → IsReached (Fork s y n) l
  no_reached s y n l d r = by (answer s r.point) refl
    where
      by : (b : Bool) → answer s r.point ≡ b → IsReached (Fork s y n) l
      by false is = record { point = r.point; in_range = r.in_range; reaches = side s y n r.point false is ∙ r.reaches }
      by true is =
          let turned : IsReached (Fork s y n) (leaf_at n r.point) = no_turned s y n r.point d r.in_range is in
          record { point = turned.point; in_range = turned.in_range; reaches = turned.reaches ∙ r.reaches }

  -- each leaf of a diagram is reached by a point in range
  point_reaches : (t : Tree L) → IsDiagram t → (l : L) → IsPartOf (Tip l) t → IsReached t l
  point_reaches (Tip m) d l part = tip_reached l m part
  point_reaches (Fork s y n) d l (inl is) = cc
  point_reaches (Fork s y n) d l (inr (inl part)) = yes_reached s y n l d (point_reaches y (yes_diagram s y n d) l part)
  point_reaches (Fork s y n) d l (inr (inr part)) = no_reached s y n l d (point_reaches n (no_diagram s y n d) l part)

-- each leaf of a diagram is reached by a packet that fits
pub leaf_reached : {L : Type 0} (t : Tree L) → IsDiagram t → (l : L) → IsPartOf (Tip l) t → (x : Numbers) × Fit x × (value t x ≡ l)
leaf_reached t d l part =
    let r = point_reaches t d l part in
    (packet_of r.point, packet_fits r.point r.in_range, value_packet_of t d.lawful r.point ∙ r.reaches)

-- the writes of an idle-free tree on a packet fit, and their numbers and those in prerequisites are among what covers the tree
value_covered : (t : Tree (List Written)) → IsIdleFree t → (ns : Field → List ℕ) → Covers ns t → (x : Numbers) → Fit x
    → All (λ w. AllFit w × CoversWrites ns w) (value t x)
value_covered t idle_free ns covers x fits k d below =
    let w : Written = slice_index_or (value t x) k d in
    let place = All-contains_itself (value t x) k d below in
    ((idle_free x fits).fit k d below, λ f n written. covers.writes f n (x, fits, (place.0, w, place.1, place.2, written)))

-- what covers an idle-free diagram covers its leaves
pub covers_leaves : (t : Tree (List Written)) → IsDiagram t → IsIdleFree t → (ns : Field → List ℕ) → Covers ns t → CoversLeaves ns t
covers_leaves t d idle_free ns covers = record {
  tests = covers.tests;
  leaves = λ l part.
      let reached = leaf_reached t d l part in
      subst (λ ws. All (λ w. AllFit w × CoversWrites ns w) ws) reached.2 (value_covered t idle_free ns covers reached.0 reached.1);
}
