-- What a tree gives of the packets that another gives: which packets, which tests and which writes.
use Rattle.std.proofs.Common.{ℕ, ◌≡◌, ◌∙◌, ◌<◌, ◌^◌, Bool, true, false, List, Option, None, Some, if◌then◌else◌, inl, inr, refl, sym, ap, subst}
use Rattle.std.specs.Prelude.{◌⊎◌, ◌↔◌, slice_index_or}
use Rattle.std.specs.List.{Any}
use Rattle.std.specs.Option.{unwrap_or}
use Rattle.pq_fields.specs.declared.field.Field.{Field}
use Rattle.pq_fields.specs.Packet.{Numbers, Fit, has_field, is_ipv4, is_tcp, is_udp, number_in}
use Rattle.pq_fields.specs.Writes.{Written, AllFit, FitsWidth, on, written_in}
use Rattle.pq_store.specs.Tree.{Tree, value}
use Rattle.pq_store.specs.Diagram.{IsDiagram}
use Rattle.pq_store.specs.Store.{AreDiagrams, Keeps}
use Rattle.pq_store.proofs.RoomLemmas.{room_for}
use Rattle.pq_rewrite.specs.Calls.{FitInSequenceAt, IsIdleFreeAt, IsSequence, SequencesAt}
use Rattle.pq_rewrite.specs.Rewriting.{ChangesAll, Gives, IsGiven, IsIdleFree, IsToWrite, IsWrittenBy}
use Rattle.pq_rewrite.specs.Sequence.{AllReady, FitAsSequenceAt, IsInSequence, IsSequencedAt}
use Rattle.pq_rewrite.proofs.Numbers.{has_on, number_on}
use Rattle.pq_rewrite.proofs.Reached.{covers_leaves}
use Rattle.pq_rewrite.proofs.Sequences.{sequenced_there}
use Rattle.pq_rewrite.proofs.Turns.{giving_as}

-- a number that fits stays one that fits where another that fits is written
still_fits : (bits : ℕ) (has : Bool) (p : Option ℕ) (n : ℕ) → FitsWidth bits p → n < 2 ^ bits → (if has then unwrap_or p n else n) < 2 ^ bits
still_fits bits true None n written fits = fits
still_fits bits true (Some m) n written fits = written
still_fits bits false p n written fits = fits

-- a packet that is written with numbers that fit is a packet
pub on_fits : (w : Written) (x : Numbers) → AllFit w → Fit x → Fit (on w x)
on_fits w x written fit = record {
  switch = fit.switch;
  port = still_fits 32 true w.port x.port written.port fit.port;
  eth_type = fit.eth_type;
  ip_proto = fit.ip_proto;
  eth_src = still_fits 48 true w.eth_src x.eth_src written.eth_src fit.eth_src;
  eth_dst = still_fits 48 true w.eth_dst x.eth_dst written.eth_dst fit.eth_dst;
  ipv4_src = still_fits 32 (is_ipv4 x) w.ipv4_src x.ipv4_src written.ipv4_src fit.ipv4_src;
  ipv4_dst = still_fits 32 (is_ipv4 x) w.ipv4_dst x.ipv4_dst written.ipv4_dst fit.ipv4_dst;
  tcp_src = still_fits 16 (is_tcp x) w.tcp_src x.tcp_src written.tcp_src fit.tcp_src;
  tcp_dst = still_fits 16 (is_tcp x) w.tcp_dst x.tcp_dst written.tcp_dst fit.tcp_dst;
  udp_src = still_fits 16 (is_udp x) w.udp_src x.udp_src written.udp_src fit.udp_src;
  udp_dst = still_fits 16 (is_udp x) w.udp_dst x.udp_dst written.udp_dst fit.udp_dst;
  ipv6_src = fit.ipv6_src;
  ipv6_dst = fit.ipv6_dst;
}

-- where the packet has the field, its number is the written one, or else stays
number_had : (f : Field) (w : Written) (x : Numbers) → has_field f x ≡ true → number_in f (on w x) ≡ unwrap_or (written_in f w) (number_in f x)
number_had f w x has = number_on f w x ∙ ap (λ b. if b then unwrap_or (written_in f w) (number_in f x) else number_in f x) has

-- a number that was another before two writes is written by one of them
one_writes : (p q : Option ℕ) (m n : ℕ) → (m ≡ n → ⊥) → unwrap_or q (unwrap_or p m) ≡ n → (p ≡ Some n) ⊎ (q ≡ Some n)
one_writes p (Some a) m n apart is = inr (ap Some is)
one_writes (Some a) None m n apart is = inl (ap Some is)
one_writes None None m n apart is = absurd (apart is)

-- so where a write that changes a field gives the packet of two, one of them writes its number
pub one_of_two : (f : Field) (n : ℕ) (v w z : Written) (x : Numbers) → ChangesAll x v → written_in f v ≡ Some n → on v x ≡ on z (on w x)
    → (written_in f w ≡ Some n) ⊎ (written_in f z ≡ Some n)
one_of_two f n v w z x changes written same =
    let change = changes f n written in
    let has : has_field f x ≡ true = change.0 in
    let once : number_in f (on v x) ≡ n = number_had f v x has ∙ ap (λ o. unwrap_or o (number_in f x)) written in
    let twice : number_in f (on z (on w x)) ≡ unwrap_or (written_in f z) (unwrap_or (written_in f w) (number_in f x)) =
    number_had f z (on w x) (has_on f w x ∙ has) ∙ ap (unwrap_or (written_in f z)) (number_had f w x has) in
    one_writes (written_in f w) (written_in f z) (number_in f x) n change.1 (sym twice ∙ (sym (ap (number_in f) same) ∙ once))

-- what is given of a packet that one of some writes gives is given of the packet written by one of them
given_through : (u : Tree (List Written)) (ws : List Written) (x y : Numbers)
    → Any (λ w. Gives u (on w x) y) ws ↔ ((z : Numbers) × IsWrittenBy x ws z × Gives u z y)
given_through u ws x y = (into, back)
  where
    into : Any (λ w. Gives u (on w x) y) ws → (z : Numbers) × IsWrittenBy x ws z × Gives u z y
    into (k, w, within, at, given) = (on w x, (k, w, within, at, refl), given)

    back : ((z : Numbers) × IsWrittenBy x ws z × Gives u z y) → Any (λ w. Gives u (on w x) y) ws
    back (z, (k, w, within, at, is), given) = (k, w, within, at, subst (λ p. Gives u p y) is given)

-- the writes of an idle-free tree change the packet, and those of another change the packet written
all_ready : (t u : Tree (List Written)) → IsIdleFree t → IsIdleFree u → (x : Numbers) → Fit x → AllReady x u (value t x)
all_ready t u t_idle_free u_idle_free x fit k d below =
    let w : Written = slice_index_or (value t x) k d in
    record { first = (t_idle_free x fit).idle_free k d below; next = u_idle_free (on w x) (on_fits w x ((t_idle_free x fit).fit k d below) fit) }

-- what is written in sequence is written by one of the two trees
sequence_writes : (t u r : Tree (List Written)) → IsIdleFree t → IsIdleFree u → IsInSequence t u r → (f : Field) (n : ℕ) → IsToWrite f n r
    → IsToWrite f n t ⊎ IsToWrite f n u
sequence_writes t u r idle_free u_idle_free sequence f n (x, fit, (k, v, within, at, written)) = two ((given.gives (on v x)).0 (k, v, within, at, refl))
  where
    given : IsGiven x (λ y. Any (λ w. Gives u (on w x) y) (value t x)) (value r x)
    given = sequence.giving x fit (all_ready t u idle_free u_idle_free x fit)

    changes : ChangesAll x v
    changes = subst (ChangesAll x) at (given.idle_free k v within)

    two : Any (λ w. Gives u (on w x) (on v x)) (value t x) → IsToWrite f n t ⊎ IsToWrite f n u
    two (i, w, w_within, w_at, (j, z, z_within, z_at, same)) = elim (one_of_two f n v w z x changes written same) [
      | inl by_first ↦ inl (x, fit, (i, w, w_within, w_at, by_first))
      | inr by_second ↦ inr (on w x, on_fits w x (subst AllFit w_at ((idle_free x fit).fit i w w_within)) fit, (j, z, z_within, z_at, by_second))
    ]

-- the tree in sequence has what is said of it
is_sequence : (t u r : Tree (List Written)) → IsDiagram t → IsDiagram u → IsIdleFree t → IsIdleFree u → IsInSequence t u r → IsSequence t u r
is_sequence t u r t_diagram u_diagram t_idle_free u_idle_free sequence = record {
  giving = giving_as (λ x y. Any (λ w. Gives u (on w x) y) (value t x)) (λ x y. (z : Numbers) × Gives t x z × Gives u z y) r
      (λ x y fit. given_through u (value t x) x y)
      (λ x fit. sequence.giving x fit (all_ready t u t_idle_free u_idle_free x fit));
  tests = λ ns first second. sequence.tests ns (covers_leaves t t_diagram t_idle_free ns first) (covers_leaves u u_diagram u_idle_free ns second);
  writes = sequence_writes t u r t_idle_free u_idle_free sequence;
}

module _ (ts : List (Tree (List Written))) (i j : ℕ) (diagrams : AreDiagrams ts) (first : IsIdleFreeAt ts i) (second : IsIdleFreeAt ts j) where
  -- idle-free diagrams whose numbers are few may come in sequence
  pub sequence_fits : FitInSequenceAt ts i j → FitAsSequenceAt ts i j
  sequence_fits fits t u t_is u_is =
      room_for (λ ns within. (
        covers_leaves t (diagrams i t t_is) (first t t_is) ns within.0,
        covers_leaves u (diagrams j u u_is) (second u u_is) ns within.1,
      )) (fits t u t_is u_is)

  -- and what is at a place in a store that has grown is their sequence
  pub sequences : (new : List (Tree (List Written))) (id : ℕ) → Keeps ts new → IsSequencedAt new i j id → SequencesAt ts i j new id
  sequences new id keeps made t u t_is u_is = (
    made.sequenced,
    made.sequenced_is,
    is_sequence t u made.sequenced (diagrams i t t_is) (diagrams j u u_is) (first t t_is) (second u u_is)
        (sequenced_there new i j id t u made.sequenced made (keeps i t t_is) (keeps j u u_is) made.sequenced_is),
  )
