use Rattle.std.proofs.Common.{◌≡◌, ℕ, ◌+◌, ◌≤◌, List, ◌++◌, length, take, Option, arith, length-append}
use Rattle.std.proofs.KnownBytes.{Consumes-trans}
use Rattle.std.proofs.lemmas.Grind.{common_steps}
use Rattle.std.proofs.lemmas.List.{length-take}
use Rattle.std.specs.Io.KnownBytes.{Consumes}
use Rattle.pq_command.specs.Reading.{piece_size}
use Rattle.pq_command.proofs.reading.read_whole.Goals as goal

-- what was read before, and a part of one piece more
taken_with : (left mid now : Option (List ℕ)) (text piece : List ℕ) (n limit : ℕ) → Consumes left mid text → Consumes mid now (take n piece)
    → length text ≤ limit → length piece ≡ piece_size → (all : List ℕ) × Consumes left now all × (length all ≤ limit + piece_size)
taken_with left mid now text piece n limit first second short room =
    (text ++ take n piece, Consumes-trans left mid now text (take n piece) first second, omega (arith, length-append text (take n piece), length-take n piece))

pub returns-in-Err-extend_from_slice-clause-err : goal.returns-in-Err-extend_from_slice-clause-err
returns-in-Err-extend_from_slice-clause-err g c =
    let i = c.loop-turn.invariant in
    let room : length c.read.new.into ≡ piece_size = grind (arith, common_steps, c.read.auto.into, c.deref_mut.ensures.value, i.room) in
    taken_with _ _ _ c.loop-turn.text.items c.read.new.into c.in-Ok-read.taken c.args.limit i.bytes c.in-Ok-read.ensures.bytes.0 i.short room
