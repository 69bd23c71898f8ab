-- A byte that is changed alone is seen. Assumes nothing.
use Rattle.std.proofs.Common.{◌≡◌, ℕ, suc, ◌<◌, Bool, true, false, cond, ◌||◌, eqb, ltb, List, [], ◌∷◌, length, get_or, set, refl, ap, ◌∙◌, arith, length-set, w8, Fits}
use Rattle.std.specs.List.{AllByRecursion}
use Rattle.spelling.specs.Spell.{Opened, holds, wrong}
use Rattle.framing.specs.Read.{Reading, accepted, refused, unwrapped}
use Rattle.cola_b.specs.Items.{find_binary}
use Rattle.cola_b.specs.Envelope.{open_binary}
use Rattle.cola_b.specs.Read.{reads_binary, Guarded}
use Rattle.cola_b.proofs.Changes.{changed}

abbrev sized : List ℕ → Bool
sized bs = eqb (length bs) 0 || ltb 65536 (length bs)

-- what is accepted is of a right size, and its envelope holds a body
opened : (bs : List ℕ) (g : Reading) → reads_binary bs ≡ accepted g → (sized bs ≡ false) × ((from : ℕ) × ((to : ℕ) × (open_binary bs ≡ holds from to)))
opened bs g e =
    let body : (o : Opened) → open_binary bs ≡ o → unwrapped find_binary true bs o ≡ accepted g → (from : ℕ) × ((to : ℕ) × (open_binary bs ≡ holds from to)) =
    λ o. elim o as (λ o. open_binary bs ≡ o → unwrapped find_binary true bs o ≡ accepted g → (from : ℕ) × ((to : ℕ) × (open_binary bs ≡ holds from to))) [
      | holds from to ↦ λ h f. (from, (to, h))
      | wrong n p ↦ λ h f. let z : ◌≡◌ {A = ℕ} 0 1 = cc in absurd (omega arith)
    ] in
    let go : (x : Bool) → sized bs ≡ x → cond x (refused 1 0) (unwrapped find_binary true bs (open_binary bs)) ≡ accepted g → (sized bs ≡ false) × ((from : ℕ) × ((to : ℕ) × (open_binary bs ≡ holds from to))) =
    λ x. elim x as (λ x. sized bs ≡ x → cond x (refused 1 0) (unwrapped find_binary true bs (open_binary bs)) ≡ accepted g → (sized bs ≡ false) × ((from : ℕ) × ((to : ℕ) × (open_binary bs ≡ holds from to)))) [
      | true ↦ λ s f. let z : ◌≡◌ {A = ℕ} 0 1 = cc in absurd (omega arith)
      | false ↦ λ s f. (s, body (open_binary bs) refl f)
    ] in
    go (sized bs) refl e

pub guarded : (bs : List ℕ) → AllByRecursion (λ b. b < 256) bs → Guarded bs
guarded bs small g i v e lt vl ne =
    let o = opened bs g e in
    let w = changed bs i v o.1.0 o.1.1.0 small lt vl ne o.1.1.1 in
    let size : sized (set bs i v) ≡ false = ap (λ n. eqb n 0 || ltb 65536 n) (length-set bs i v) ∙ o.0 in
    (w.0, (w.1.0, ap (λ x. cond x (refused 1 0) (unwrapped find_binary true (set bs i v) (open_binary (set bs i v)))) size ∙ ap (unwrapped find_binary true (set bs i v)) w.1.1))

pub octets : (bs : List ℕ) → ((i : ℕ) → Fits w8 (get_or bs i 0)) → AllByRecursion (λ b. b < 256) bs
octets [] h = tt
octets (b ∷ bs) h = (omega (arith, h 0), octets bs (λ i. h (suc i)))
