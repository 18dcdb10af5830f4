-- The disks' parts, one after another, and what is read from them.
use Rattle.std.proofs.Common.{◌≡◌, ℕ, ◌+◌, ◌*◌, ◌≤◌, List, [], ◌∷◌, ◌++◌, length, slice_index, refl, sym, ap, subst, ◌∙◌, append_assoc, arith}
use Rattle.std.proofs.lemmas.List.{length-append}
use Rattle.nb_ibft.specs.Infos.{Target, IsTarget, AreTargets, AreShortTexts, target_texts, targets_texts}
use Rattle.nb_ibft.specs.Tables.{kept, texts_joined, portal_text, target_login_text, targets_text, control_text}
use Rattle.nb_ibft.specs.Places.{AllStandAt}
use Rattle.nb_ibft.proofs.TextLemmas.{kept_short}

-- what a disk's part is read as, wherever it stands
abbrev pub Reads : (bytes parts : List ℕ) → (Target → List ℕ → Type 0) → Type 0
Reads bytes parts R = (index at : ℕ) (t : Target) (after : List ℕ) → IsTarget t → AreShortTexts (target_texts t) → AllStandAt bytes at (target_texts t) → at ≤ 8023 → parts ≡ portal_text index t ++ (t.lun ++ (target_login_text at t ++ after)) → R t after

inside : (a b c d e : List ℕ) → (a ++ (b ++ (c ++ d))) ++ e ≡ a ++ (b ++ (c ++ (d ++ e)))
inside a b c d e = simp append_assoc

-- the first of several
pub first_read : (bytes parts : List ℕ) (R : Target → List ℕ → Type 0) (t : Target) (ts : List Target) (index at : ℕ) (after : List ℕ) → Reads bytes parts R → IsTarget t → AreShortTexts (targets_texts (t ∷ ts)) → AllStandAt bytes at (targets_texts (t ∷ ts)) → at ≤ 8023 → parts ≡ targets_text index at (t ∷ ts) ++ after → R t (targets_text (index + 1) (at + length (texts_joined (target_texts t))) ts ++ after)
first_read bytes parts R t ts index at after reads valid short stand most e =
    reads index at t (targets_text (index + 1) (at + length (texts_joined (target_texts t))) ts ++ after) valid
    (short.0, (short.1.0, (short.1.1.0, (short.1.1.1.0, (short.1.1.1.1.0, tt)))))
    (stand.0, (stand.1.0, (stand.1.1.0, (stand.1.1.1.0, (stand.1.1.1.1.0, tt)))))
    most
    (e ∙ inside (portal_text index t) t.lun (target_login_text at t) (targets_text (index + 1) (at + length (texts_joined (target_texts t))) ts) after)

-- how long a disk's texts are
pub joined_length : (at : ℕ) (t : Target) → at + length (texts_joined (target_texts t)) ≡ at + length (kept t.name) + length (kept t.user) + length (kept t.secret) + length (kept t.reverse_user) + length (kept t.reverse_secret)
joined_length at t =
    omega (
      arith,
      length-append (kept t.name) (texts_joined (t.user ∷ t.secret ∷ t.reverse_user ∷ t.reverse_secret ∷ [])),
      length-append (kept t.user) (texts_joined (t.secret ∷ t.reverse_user ∷ t.reverse_secret ∷ [])),
      length-append (kept t.secret) (texts_joined (t.reverse_user ∷ t.reverse_secret ∷ [])),
      length-append (kept t.reverse_user) (texts_joined (t.reverse_secret ∷ [])),
      length-append (kept t.reverse_secret) [],
    )

pub joined_most : (at : ℕ) (t : Target) → AreShortTexts (target_texts t) → at + length (texts_joined (target_texts t)) ≤ at + 5445
joined_most at t short = omega (arith, joined_length at t, kept_short t.name short.0, kept_short t.user short.1.0, kept_short t.secret short.1.1.0, kept_short t.reverse_user short.1.1.1.0, kept_short t.reverse_secret short.1.1.1.1.0)

-- the texts of the other disks stand after those of the first
pub others_stand : (bytes : List ℕ) (t : Target) (ts : List Target) (at : ℕ) → AllStandAt bytes at (targets_texts (t ∷ ts)) → AllStandAt bytes (at + length (texts_joined (target_texts t))) (targets_texts ts)
others_stand bytes t ts at stand = subst (λ n. AllStandAt bytes n (targets_texts ts)) (sym (joined_length at t)) stand.1.1.1.1.1

-- the first byte of the places says that there is a disk
pub none_there : (targets : List Target) (control : List ℕ) → control ≡ control_text targets → slice_index control 12 ≡ 0 → targets ≡ []
none_there [] control is z = refl
none_there (t ∷ []) control is z = absurd (let e : 16 ≡ 0 = sym (ap (λ l. slice_index l 12) is) ∙ z in omega (arith, e))
none_there (t ∷ u ∷ ts) control is z = absurd (let e : 16 ≡ 0 = sym (ap (λ l. slice_index l 12) is) ∙ z in omega (arith, e))

-- where a disk is said to be there, its part is read
pub one_missed : (bytes parts control : List ℕ) (targets : List Target) (at : ℕ) (after : List ℕ) → Reads bytes parts (λ t rest. ⊥) → AreTargets targets → AreShortTexts (targets_texts targets) → control ≡ control_text targets → (slice_index control 12 ≡ 0 → ⊥) → AllStandAt bytes at (targets_texts targets) → at ≤ 2578 → parts ≡ targets_text 0 at targets ++ after → ⊥
one_missed bytes parts control [] at after reads valid short is nz stand most e = nz (ap (λ l. slice_index l 12) is)
one_missed bytes parts control (t ∷ ts) at after reads valid short is nz stand most e = first_read bytes parts (λ t rest. ⊥) t ts 0 at after reads valid.0 short stand (omega arith) e

-- one disk alone
pub one_read : (bytes parts control rest : List ℕ) (one : Target) (targets : List Target) (at : ℕ) (after : List ℕ) → Reads bytes parts (λ t more. (one ≡ t) × (rest ≡ more)) → AreTargets targets → AreShortTexts (targets_texts targets) → control ≡ control_text targets → (slice_index control 12 ≡ 0 → ⊥) → slice_index control 16 ≡ 0 → AllStandAt bytes at (targets_texts targets) → at ≤ 2578 → parts ≡ targets_text 0 at targets ++ after → one ∷ [] ≡ targets
one_read bytes parts control rest one [] at after reads valid short is nz z stand most e = absurd (nz (ap (λ l. slice_index l 12) is))
one_read bytes parts control rest one (t ∷ []) at after reads valid short is nz z stand most e = ap (λ x. x ∷ []) (first_read bytes parts (λ t more. (one ≡ t) × (rest ≡ more)) t [] 0 at after reads valid.0 short stand (omega arith) e).0
one_read bytes parts control rest one (t ∷ u ∷ ts) at after reads valid short is nz z stand most e = absurd (let n : 80 ≡ 0 = sym (ap (λ l. slice_index l 16) is) ∙ z in omega (arith, n))

-- two disks
pub two_read : (bytes parts control rest : List ℕ) (one : Target) (Q : List Target → Type 0) (targets : List Target) (at : ℕ) (after : List ℕ) → Reads bytes parts (λ t more. (one ≡ t) × (rest ≡ more)) → Reads bytes rest (λ u more. Q (one ∷ u ∷ [])) → AreTargets targets → length targets ≤ 2 → AreShortTexts (targets_texts targets) → control ≡ control_text targets → (slice_index control 12 ≡ 0 → ⊥) → (slice_index control 16 ≡ 0 → ⊥) → AllStandAt bytes at (targets_texts targets) → at ≤ 2578 → parts ≡ targets_text 0 at targets ++ after → Q targets
two_read bytes parts control rest one Q [] at after first second valid few short is nz nz2 stand most e = absurd (nz (ap (λ l. slice_index l 12) is))
two_read bytes parts control rest one Q (t ∷ []) at after first second valid few short is nz nz2 stand most e = absurd (nz2 (ap (λ l. slice_index l 16) is))
two_read bytes parts control rest one Q (t ∷ u ∷ []) at after first second valid few short is nz nz2 stand most e =
    let r = first_read bytes parts (λ t more. (one ≡ t) × (rest ≡ more)) t (u ∷ []) 0 at after first valid.0 short stand (omega arith) e in
    let five : AreShortTexts (target_texts t) = (short.0, (short.1.0, (short.1.1.0, (short.1.1.1.0, (short.1.1.1.1.0, tt))))) in
    subst (λ x. Q (x ∷ u ∷ [])) r.0
    (first_read bytes rest (λ u more. Q (one ∷ u ∷ [])) u [] 1 (at + length (texts_joined (target_texts t))) after second valid.1.0 short.1.1.1.1.1 (others_stand bytes t (u ∷ []) at stand) (omega (arith, joined_most at t five)) r.1)
two_read bytes parts control rest one Q (t ∷ u ∷ v ∷ ts) at after first second valid few short is nz nz2 stand most e = absurd (omega (arith, few))

-- how long the disks' parts are
pub parts_length : (index at : ℕ) (targets : List Target) → AreTargets targets → length (targets_text index at targets) ≡ 64 * length targets
parts_length index at [] valid = refl
parts_length index at (t ∷ ts) valid =
    omega (
      arith,
      valid.0.lun,
      length-append (portal_text index t) (t.lun ++ (target_login_text at t ++ targets_text (index + 1) (at + length (texts_joined (target_texts t))) ts)),
      length-append t.lun (target_login_text at t ++ targets_text (index + 1) (at + length (texts_joined (target_texts t))) ts),
      length-append (target_login_text at t) (targets_text (index + 1) (at + length (texts_joined (target_texts t))) ts),
      parts_length (index + 1) (at + length (texts_joined (target_texts t))) ts valid.1,
    )
