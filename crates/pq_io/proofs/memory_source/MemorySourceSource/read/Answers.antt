use Rattle.std.proofs.Common.{◌≡◌, ◌-◌, min, length, take, drop, sym, ap, ◌∙◌, drop-drop}
use Rattle.std.proofs.lemmas.List.{take_rest}
use Rattle.pq_io.proofs.ReadLemmas.{front_is_read}
use Rattle.pq_io.proofs.memory_source.MemorySourceSource.read.Goals as goal

pub returns-clause-bytes : goal.returns-clause-bytes
returns-clause-bytes c =
    let bytes = c.self.inside.bytes.items in
    let at = c.self.inside.at in
    let most = c.self.inside.most in
    let n = c.min-count.result in
    let rest : take (length c.deref-2.result.now - at) (drop at c.deref-2.result.now) ≡ drop at bytes = take_rest _ at ∙ ap (drop at) c.deref-2.ensures.value in
    let fitting : c.min.result ≡ min (length (drop at bytes)) (length c.args.into.now) = c.min.ensures
    ∙ ap (λ l. min (length l) (length c.args.into.now)) rest in
    let count : n ≡ min (min (length (drop at bytes)) (length c.args.into.now)) most = c.min-count.ensures ∙ ap (λ l. min l most) fitting in
    rw (c.copy_from_slice.ensures.after, rest, ← c.self.view_is, sym (drop-drop n at bytes))
    (front_is_read (drop at bytes) c.args.into.now n most (c.self.invariant.1) count)
