-- What a text is to a piece of a grammar: it begins with one, more bytes can make one of it, or none can.
use Rattle.std.proofs.Common.{◌≡◌, ℕ, List, [], ◌∷◌, ◌++◌, Bool, true, false, refl, ap, ◌∙◌, sym, subst, append-nil}
use Rattle.std.specs.Bool.{IsTrue}
use Rattle.std.proofs.lemmas.Bool.{false≢true}
use Rattle.std.proofs.lemmas.List.Elements.{All-nil, All-cons, All-head, All-tail}
use Rattle.httparse.specs.Grammar.{AllPass}
use Rattle.httparse.specs.Pieces.{Piece}
use Rattle.nb_responses.proofs.Cases.{either}

pub data Decided {A : Type 0} (G : Piece A) (text : List ℕ) : Type 0 where
  reads : (a : A) (rest : List ℕ) → G a text rest → Decided G text
  begun : ((a : A) (rest : List ℕ) → ¬ (G a text rest)) → (more : List ℕ) (a : A) → G a (text ++ more) [] → Decided G text
  never : ((more : List ℕ) (a : A) (rest : List ℕ) → ¬ (G a (text ++ more) rest)) → Decided G text

-- a piece of one grammar is one of another, each way and whatever follows
pub decided_by : {A B : Type 0} (G : Piece A) (H : Piece B) (f : A → B) (s t : List ℕ)
    → ((a : A) (more rest : List ℕ) → G a (s ++ more) rest → H (f a) (t ++ more) rest)
    → ((b : B) (more rest : List ℕ) → H b (t ++ more) rest → (a : A) × G a (s ++ more) rest) → Decided G s → Decided H t
decided_by G H f s t up down (reads a rest g) =
    reads (f a) rest (subst (λ x. H (f a) x rest) (append-nil t) (up a [] rest (subst (λ x. G a x rest) (sym (append-nil s)) g)))
decided_by G H f s t up down (begun none more a g) = begun
    (λ b rest h. let back = down b [] rest (subst (λ x. H b x rest) (sym (append-nil t)) h) in none back.0 rest (subst (λ x. G back.0 x rest) (append-nil s) back.1))
    more (f a) (up a more [] g)
decided_by G H f s t up down (never none) = never (λ more b rest h. let back = down b more rest h in none more back.0 rest back.1)

-- bytes that pass a test
pub pass_none : (test : ℕ → Bool) → AllPass test []
pass_none test = All-nil (λ b. IsTrue (test b))

pub pass_one_more : (test : ℕ → Bool) (b : ℕ) (bs : List ℕ) → test b ≡ true → AllPass test bs → AllPass test (b ∷ bs)
pass_one_more test b bs on all = All-cons (λ b. IsTrue (test b)) b bs on all

pub first_passes : (test : ℕ → Bool) (b : ℕ) (bs : List ℕ) → AllPass test (b ∷ bs) → test b ≡ true
first_passes test b bs all = All-head (λ b. IsTrue (test b)) b bs all

pub rest_passes : (test : ℕ → Bool) (b : ℕ) (bs : List ℕ) → AllPass test (b ∷ bs) → AllPass test bs
rest_passes test b bs all = All-tail (λ b. IsTrue (test b)) b bs all

-- they, and a piece after them
pub record After {A : Type 0} (test : ℕ → Bool) (G : Piece A) (a : List ℕ × A) (text rest : List ℕ) : Type 0 where
  pub pass : AllPass test a.0
  pub middle : List ℕ
  pub stands : text ≡ a.0 ++ middle
  pub reads : G a.1 middle rest

-- the piece where none of them stands
pub at_once : {A : Type 0} (test : ℕ → Bool) (G : Piece A) (a : A) (text rest : List ℕ) → G a text rest → After test G ([], a) text rest
at_once test G a text rest g = record { pass = pass_none test; middle = text; stands = refl; reads = g }

pub one_more : {A : Type 0} (test : ℕ → Bool) (G : Piece A) (b : ℕ) (a : List ℕ × A) (text rest : List ℕ) → test b ≡ true → After test G a text rest → After test G (b ∷ a.0, a.1) (b ∷ text) rest
one_more test G b a text rest on h = record { pass = pass_one_more test b a.0 on h.pass; middle = h.middle; stands = ap (λ t. b ∷ t) h.stands; reads = h.reads }

pub one_less : {A : Type 0} (test : ℕ → Bool) (G : Piece A) (b c : ℕ) (cs : List ℕ) (a : A) (text rest : List ℕ) → After test G (c ∷ cs, a) (b ∷ text) rest → (test b ≡ true) × After test G (cs, a) text rest
one_less test G b c cs a text rest h =
    let e : b ∷ text ≡ (c ∷ cs) ++ h.middle = h.stands in
    let same : b ≡ c = cc in
    (ap test same ∙ first_passes test c cs h.pass, record { pass = rest_passes test c cs h.pass; middle = h.middle; stands = cc; reads = h.reads })

pub none_before : {A : Type 0} (test : ℕ → Bool) (G : Piece A) (a : A) (text rest : List ℕ) → After test G ([], a) text rest → G a text rest
none_before test G a text rest h = subst (λ m. G a m rest) (sym h.stands) h.reads

-- some bytes are the piece
pub record Complete {A : Type 0} (G : Piece A) : Type 0 where
  pub text : List ℕ
  pub tree : A
  pub is : G tree text []

pub after_decided : {A : Type 0} (test : ℕ → Bool) (G : Piece A) → ((a : A) (rest : List ℕ) → ¬ (G a [] rest))
    → ((a : A) (b : ℕ) (text rest : List ℕ) → G a (b ∷ text) rest → test b ≡ false) → Complete G
    → ((text : List ℕ) → Decided G text) → (text : List ℕ) → Decided (After test G) text
after_decided {A} test G none stops one decide [] = begun empty one.text ([], one.tree) (at_once test G one.tree one.text [] one.is)
  where
    empty : (a : List ℕ × A) (rest : List ℕ) → ¬ (After test G a [] rest)
    empty ([], a) rest h = none a rest (none_before test G a [] rest h)
    empty (b ∷ bs, a) rest h = let e : [] ≡ (b ∷ bs) ++ h.middle = h.stands in cc
after_decided {A} test G none stops one decide (b ∷ bs) = either (test b)
    (λ on. decided_by (After test G) (After test G) (λ a. (b ∷ a.0, a.1)) bs (b ∷ bs)
    (λ a more rest h. one_more test G b a (bs ++ more) rest on h)
    (on_down on) (after_decided test G none stops one decide bs))
    (λ off. decided_by G (After test G) (λ a. ([], a)) (b ∷ bs) (b ∷ bs)
    (λ a more rest g. at_once test G a (b ∷ (bs ++ more)) rest g)
    (off_down off) (decide (b ∷ bs)))
  where
    on_down : test b ≡ true → (a : List ℕ × A) (more rest : List ℕ) → After test G a (b ∷ (bs ++ more)) rest → (c : List ℕ × A) × After test G c (bs ++ more) rest
    on_down on ([], a) more rest h = absurd (false≢true (sym (stops a b (bs ++ more) rest (none_before test G a (b ∷ (bs ++ more)) rest h)) ∙ on))
    on_down on (c ∷ cs, a) more rest h = ((cs, a), (one_less test G b c cs a (bs ++ more) rest h).1)

    off_down : test b ≡ false → (a : List ℕ × A) (more rest : List ℕ) → After test G a (b ∷ (bs ++ more)) rest → (c : A) × G c (b ∷ (bs ++ more)) rest
    off_down off ([], a) more rest h = (a, none_before test G a (b ∷ (bs ++ more)) rest h)
    off_down off (c ∷ cs, a) more rest h = absurd (false≢true (sym off ∙ (one_less test G b c cs a (bs ++ more) rest h).0))
