-- Which block stands first by priority.
use Rattle.std.proofs.Common.{◌≡◌, ℤ, ℕ, ◌+◌, ◌<◌, ◌≤◌, Bool, true, false, cond, List, [], ◌∷◌, length, drop, get_or, Option, Some, None, refl, ap, ◌∙◌, sym, arith}
use Rattle.std.specs.Prelude.{find, int_lt}
use Rattle.std.proofs.lemmas.Int.{ints}
use Rattle.std.proofs.lemmas.List.{drop_more, drop_all}
use Rattle.std.proofs.lemmas.Option.{same_Some}
use Rattle.nb_settings.specs.declared.block.Block.{Block}
use Rattle.nb_settings.specs.Tables.{put_in, by_priority}
use Rattle.nb_settings.specs.Order.{sooner}
use Rattle.nb_settings.proofs.FindLemmas.{either_way}

not_above : (a b c : ℤ) → int_lt a b ≡ false → int_lt b c ≡ false → int_lt a c ≡ false
not_above a b c h k = grind (arith, ints)

above : (a b c : ℤ) → int_lt a b ≡ true → int_lt b c ≡ true → int_lt a c ≡ true
above a b c h k = grind (arith, ints)

not_both : (a b : ℤ) → int_lt a b ≡ true → int_lt b a ≡ false
not_both a b h = grind (arith, ints)

-- each priority is at most the one before it, the first at most this one
FallsFrom : ℤ → List Block → Type 0
FallsFrom top [] = Unit {0}
FallsFrom top (b ∷ bs) = (int_lt top b.priority ≡ false) × FallsFrom b.priority bs

IsFalling : List Block → Type 0
IsFalling [] = Unit {0}
IsFalling (b ∷ bs) = FallsFrom b.priority bs

falling_tail : (top : ℤ) (bs : List Block) → FallsFrom top bs → IsFalling bs
unfolding IsFalling FallsFrom
falling_tail top [] falls = tt
falling_tail top (b ∷ bs) falls = falls.1

put_falls : (top : ℤ) (b : Block) (bs : List Block) → int_lt top b.priority ≡ false → FallsFrom top bs → FallsFrom top (put_in b bs)
unfolding FallsFrom
put_falls top b [] low falls = (low, tt)
put_falls top b (c ∷ cs) low falls = either_way (int_lt b.priority c.priority)
    (λ on. rw on (falls.0, put_falls c.priority b cs (not_both b.priority c.priority on) falls.1))
    (λ off. rw off (low, (off, falls.1)))

put_falling : (b : Block) (bs : List Block) → IsFalling bs → IsFalling (put_in b bs)
unfolding IsFalling FallsFrom
put_falling b [] falls = tt
put_falling b (c ∷ cs) falls = either_way (int_lt b.priority c.priority)
    (λ on. rw on (put_falls c.priority b cs (not_both b.priority c.priority on) falls))
    (λ off. rw off (off, falls))

by_priority_falls : (bs : List Block) → IsFalling (by_priority bs)
unfolding IsFalling
by_priority_falls [] = tt
by_priority_falls (b ∷ bs) = put_falling b (by_priority bs) (by_priority_falls bs)

-- what is found is no higher than what stands before it
found_falls : (p : Block → Bool) (top : ℤ) (bs : List Block) (b : Block) → FallsFrom top bs → find p bs ≡ Some b → int_lt top b.priority ≡ false
unfolding FallsFrom
found_falls p top [] b falls is = absurd cc
found_falls p top (c ∷ cs) b falls is = either_way (p c)
    (λ on. ap (λ (x : Block). int_lt top x.priority) (sym (same_Some c b (rw on at is))) ∙ falls.0)
    (λ off. not_above top c.priority b.priority falls.0 (found_falls p c.priority cs b falls.1 (rw off at is)))

-- the sooner of an earlier and a later block, where there are such
abbrev pub sooner_of : Option Block → Option Block → Option Block
sooner_of None later = later
sooner_of (Some earlier) None = Some earlier
sooner_of (Some earlier) (Some later) = Some (sooner (Some earlier) later)

ahead : (p : Block → Bool) (b c : Block) (cs : List Block) (found : Option Block) → int_lt b.priority c.priority ≡ false → FallsFrom c.priority cs → find p cs ≡ found → p c ≡ false → sooner_of (Some b) found ≡ Some b
ahead p b c cs None low falls is fails = refl
ahead p b c cs (Some d) low falls is fails =
    let below : int_lt b.priority d.priority ≡ false = not_above b.priority c.priority d.priority low (found_falls p c.priority cs d falls is) in
    rw below refl

-- the first that passes, once one more block is put in
find-put_in : (p : Block → Bool) (b : Block) (bs : List Block) → IsFalling bs → find p (put_in b bs) ≡ cond (p b) (sooner_of (Some b) (find p bs)) (find p bs)
unfolding IsFalling
find-put_in p b [] falls = refl
find-put_in p b (c ∷ cs) falls = either_way (int_lt b.priority c.priority)
    (λ on. either_way (p c)
    (λ pc. either_way (p b) (λ pb. rw (on, pc, pb, on) refl) (λ pb. rw (on, pc, pb) refl))
    (λ pc. rw (on, pc) (find-put_in p b cs (falling_tail c.priority cs falls))))
    (λ off. either_way (p b)
    (λ pb. either_way (p c)
    (λ pc. rw (off, pb, pc, off) refl)
    (λ pc. rw (off, pb, pc) (sym (ahead p b c cs (find p cs) off falls refl pc))))
    (λ pb. rw (off, pb) refl))

-- the first by priority of the blocks that pass, by recursion
abbrev pub soonest : (Block → Bool) → List Block → Option Block
soonest p [] = None
soonest p (b ∷ bs) = cond (p b) (sooner_of (Some b) (soonest p bs)) (soonest p bs)

pub find-by_priority : (p : Block → Bool) (bs : List Block) → find p (by_priority bs) ≡ soonest p bs
find-by_priority p [] = refl
find-by_priority p (b ∷ bs) =
    find-put_in p b (by_priority bs) (by_priority_falls bs) ∙ ap (λ o. cond (p b) (sooner_of (Some b) o) o) (find-by_priority p bs)

sooner_chain : (a b c : Block) → sooner (Some (sooner (Some a) b)) c ≡ sooner (Some a) (sooner (Some b) c)
sooner_chain a b c = either_way (int_lt a.priority b.priority)
    (λ ab. either_way (int_lt b.priority c.priority)
    (λ bc. rw (ab, bc, above a.priority b.priority c.priority ab bc) refl)
    (λ bc. rw (ab, bc, ab) refl))
    (λ ab. either_way (int_lt b.priority c.priority)
    (λ bc. rw (ab, bc) refl)
    (λ bc. rw (ab, bc, not_above a.priority b.priority c.priority ab bc, ab) refl))

sooner_of_chain : (first : Option Block) (b : Block) (rest : Option Block) → sooner_of (Some (sooner first b)) rest ≡ sooner_of first (sooner_of (Some b) rest)
sooner_of_chain None b rest = refl
sooner_of_chain (Some a) b None = refl
sooner_of_chain (Some a) b (Some c) = ap Some (sooner_chain a b c)

at_place : (p : Block → Bool) (first : Option Block) (bs : List Block) (i : ℕ) (b : Block) → i < length bs → b ≡ get_or bs i b → sooner_of first (soonest p (drop i bs)) ≡ sooner_of first (cond (p b) (sooner_of (Some b) (soonest p (drop (i + 1) bs))) (soonest p (drop (i + 1) bs)))
at_place p first bs i b within is =
    ap (λ rest. sooner_of first (soonest p rest)) (drop_more bs i b within)
    ∙ ap (λ (x : Block). sooner_of first (cond (p x) (sooner_of (Some x) (soonest p (drop (i + 1) bs))) (soonest p (drop (i + 1) bs)))) (sym is)

-- one block further
pub soonest-passes : (p : Block → Bool) (first : Option Block) (bs : List Block) (i : ℕ) (b : Block) → i < length bs → b ≡ get_or bs i b → p b ≡ true → sooner_of (Some (sooner first b)) (soonest p (drop (i + 1) bs)) ≡ sooner_of first (soonest p (drop i bs))
soonest-passes p first bs i b within is on =
    sooner_of_chain first b (soonest p (drop (i + 1) bs))
    ∙ sym (at_place p first bs i b within is ∙ rw on refl)

pub soonest-fails : (p : Block → Bool) (first : Option Block) (bs : List Block) (i : ℕ) (b : Block) → i < length bs → b ≡ get_or bs i b → p b ≡ false → sooner_of first (soonest p (drop (i + 1) bs)) ≡ sooner_of first (soonest p (drop i bs))
soonest-fails p first bs i b within is off = sym (at_place p first bs i b within is ∙ rw off refl)

no_later : (first : Option Block) → sooner_of first None ≡ first
no_later None = refl
no_later (Some b) = refl

pub soonest-end : (p : Block → Bool) (first : Option Block) (bs : List Block) (i : ℕ) → length bs ≤ i → sooner_of first (soonest p (drop i bs)) ≡ first
soonest-end p first bs i past = ap (λ rest. sooner_of first (soonest p rest)) (drop_all i bs past) ∙ no_later first
