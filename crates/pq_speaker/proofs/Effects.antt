-- What a message does, as far as the world cares.
use Rattle.std.proofs.Common.{◌≡◌, ◌⊎◌, ℕ, ◌-◌, true, not, ◌&&◌, List, [], ◌∷◌, ◌++◌, length, refl, sym, ap, ◌∙◌, inl, inr, append-nil, length-append, arith}
use Rattle.std.specs.Prelude.{slice_get, nat_lt, ◌==◌}
use Rattle.std.specs.List.{flat_map}
use Rattle.std.specs.declared.option.Option.TheVariants.{Some}
use Rattle.std.proofs.lemmas.Bool.{and_parts, cond_both, eqb-true, not-false}
use Rattle.pq_model.specs.declared.message.Message.{Message}
use Rattle.pq_model.specs.declared.message.Message.TheVariants.{Barrier}
use Rattle.pq_speaker.specs.declared.talk.Talk.{Talk}
use Rattle.pq_speaker.specs.declared.talk.Talk.TheVariants.{Asking, Installing, Installed}
use Rattle.pq_speaker.specs.declared.talk.Reason.TheVariants.{BadLength, BadVersion, OtherSwitch}
use Rattle.pq_speaker.specs.Division.{header_of}
use Rattle.pq_speaker.specs.Rules.{Session, Effect, barrier_reply, echo_request, effect, ends_with_barrier, error, fails, features_reply}
use Rattle.pq_speaker.specs.Rules.{greeted, has_bad_length, has_failed, hello, identified, is_asking, is_before_installed, is_greeting}
use Rattle.pq_speaker.specs.Rules.{is_installing, is_some_barrier_of, leads_to, refused, spoken, version_spoken}
use Rattle.pq_speaker.specs.World.{installed_by}

abbrev pub installs : Session → Effect → List Message
installs s e = flat_map (installed_by s.messages) e.replies

-- the session fails
abbrev pub Fails : Effect → Type 0
Fails e = has_failed e.talk ≡ true

-- the session leads nowhere and nothing is installed
abbrev pub Stays : Session → Talk → Effect → Type 0
Stays s talk e = (e.talk ≡ talk) × (installs s e ≡ [])

abbrev pub Asks : Session → Talk → Effect → Type 0
Asks s talk e = (is_greeting talk ≡ true) × (e.talk ≡ Asking) × (installs s e ≡ [])

abbrev pub Installs : Session → Talk → Effect → Type 0
Installs s talk e = (is_asking talk ≡ true) × (e.talk ≡ Installing) × (installs s e ≡ s.messages)

abbrev pub Ends : Session → Talk → List ℕ → Effect → Type 0
Ends s talk m e =
    (is_installing talk ≡ true) × (e.talk ≡ Installed) × (installs s e ≡ [])
    × (((header_of m).kind == barrier_reply) ≡ true) × (ends_with_barrier (header_of m).xid s.messages ≡ true)

abbrev pub Does : Session → Talk → List ℕ → Effect → Type 0
Does s talk m e = Fails e ⊎ Stays s talk e ⊎ Asks s talk e ⊎ Installs s talk e ⊎ Ends s talk m e

does-greet : (s : Session) (talk : Talk) (m : List ℕ) (version : ℕ) → Does s talk m (greeted talk version)
does-greet s talk m version =
    cond_both (not (is_greeting talk)) (leads_to talk) _ (Does s talk m) (λ e. inr (inl (refl, refl)))
    (λ e. cond_both (nat_lt version version_spoken) (fails (BadVersion version)) _ (Does s talk m) (λ h. inl refl)
    (λ h. inr (inr (inl (not-false (is_greeting talk) e, refl, refl)))))

does-identify : (s : Session) (talk : Talk) (m : List ℕ) (datapath : ℕ) → is_asking talk ≡ true → Does s talk m (identified s datapath)
does-identify s talk m datapath asks =
    cond_both (not (datapath == s.datapath)) (fails (OtherSwitch datapath)) _ (Does s talk m) (λ e. inl refl)
    (λ e. inr (inr (inr (inl (asks, refl, append-nil s.messages)))))

does-speak : (s : Session) (talk : Talk) (m : List ℕ) → Does s talk m (spoken s talk (header_of m) m)
does-speak s talk m =
    let h = header_of m in
    cond_both (h.kind == echo_request) _ _ (Does s talk m) (λ e. inr (inl (refl, refl)))
    (λ e. cond_both ((h.kind == error) && is_before_installed talk) (refused m) _ (Does s talk m) (λ f. inl refl)
    (λ f. cond_both ((h.kind == features_reply) && is_asking talk) _ _ (Does s talk m)
    (λ g. does-identify s talk m _ (and_parts (h.kind == features_reply) (is_asking talk) g).1)
    (λ g. cond_both ((h.kind == barrier_reply) && is_installing talk && ends_with_barrier h.xid s.messages) (leads_to Installed) (leads_to talk) (Does s talk m)
    (λ k.
    let first = and_parts ((h.kind == barrier_reply) && is_installing talk) (ends_with_barrier h.xid s.messages) k in
    let both = and_parts (h.kind == barrier_reply) (is_installing talk) first.0 in
    inr (inr (inr (inr (both.1, refl, refl, both.0, first.1)))))
    (λ k. inr (inl (refl, refl))))))

pub does : (s : Session) (talk : Talk) (m : List ℕ) → Does s talk m (effect s talk m)
does s talk m =
    let h = header_of m in
    cond_both (has_failed talk) (leads_to talk) _ (Does s talk m) (λ e. inl e)
    (λ e. cond_both (has_bad_length talk h) (fails (BadLength h.length)) _ (Does s talk m) (λ f. inl refl)
    (λ f. cond_both (h.kind == hello) _ _ (Does s talk m) (λ g. does-greet s talk m h.version)
    (λ g. cond_both (not (h.version == version_spoken)) (fails (BadVersion h.version)) _ (Does s talk m) (λ k. inl refl)
    (λ k. does-speak s talk m))))

-- the last barrier's xid
slice_get-last : (front : List Message) (m : Message) → slice_get (front ++ m ∷ []) (length front) ≡ Some m
slice_get-last [] m = refl
slice_get-last (f ∷ front) m = slice_get-last front m

pub ends-with : (front : List Message) (last xid : ℕ) → ends_with_barrier xid (front ++ Barrier last ∷ []) ≡ true → xid ≡ last
ends-with front last xid ends =
    let all = front ++ Barrier last ∷ [] in
    let place : length all - 1 ≡ length front = omega (arith, length-append front (Barrier last ∷ [])) in
    let is : slice_get all (length all - 1) ≡ Some (Barrier last) = ap (slice_get all) place ∙ slice_get-last front (Barrier last) in
    sym (eqb-true last xid (ap (is_some_barrier_of xid) (sym is) ∙ ends))
