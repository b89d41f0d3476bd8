-- Points that polynomials go through.
use Rattle.std.proofs.Common.{◌≡◌, ℕ, zero, suc, ◌+◌, ◌<◌, List, [], ◌∷◌, ◌++◌, length, get_or, take, map, replicate, Bool, true, false, cond, eqb, refl, sym, ap, ◌∙◌, arith, lit<}
use Rattle.std.specs.List.{fold, range_with_len}
use Rattle.std.proofs.lemmas.Grind.{same_number_lists}
use Rattle.std.proofs.lemmas.List.{get_or-map, length-map, take_all, take_more}
use Rattle.std.proofs.lemmas.List.FromFn.{get_or-map-range_with_len, length-map-range_with_len}
use Rattle.hy_gf.specs.Gf.{gf, gf_sum, gf_product, gf_inverse, IsElement}
use Rattle.hy_gf.specs.GfLaws.{gf_is_field, product-assoc, product-comm, product-below, product-one}
use Rattle.hy_gf.specs.Row.{row_sum}
use Rattle.hy_code.proofs.Bytes.{only_polynomial}
use Rattle.hy_code.proofs.Refusals.{AreSized, AreSized-each}
use Rattle.hy_code.proofs.Rows.{clouds-elements, column-elements, length-clouds, nothing, rows_sum, rows_sum-next, rows_sum-all}
use Rattle.hy_code.specs.Fragments.{clouds, column, row_at}
use Rattle.hy_code.specs.Points.{AreInRange, ArePoints}
use Rattle.hy_code.specs.Polynomial.{AreElements, AreDifferent, value_at, polynomial_through}
use Rattle.hy_code.specs.Weights.{weight, weight_step, raised, raised_step, scale, scale_step}
use Rattle.hy_code.specs.declared.pick.Pick.{Pick}

-- ---- the bytes at a cloud that was picked

abbrev cloud_of : Pick → ℕ
cloud_of pick = pick.cloud

-- the bytes at a pick's cloud are the pick's
pub held_row : (size : ℕ) (picks : List Pick) (i : ℕ) (pick : Pick) → i < length picks → pick ≡ get_or picks i pick → AreSized size picks → AreInRange picks → AreDifferent (clouds picks) → row_at size picks pick.cloud ≡ pick.bytes
unfolding row_at
held_row size picks i pick within here sized in_range different =
    same_number_lists (map value (range_with_len 0 size)) pick.bytes (long ∙ sym own)
    (λ place inside.
    get_or-map-range_with_len value 0 size place place 0 (omega (arith, long)) (omega arith)
    ∙ ap (value_at gf (through place)) (sym cloud_is)
    ∙ sym (get_or-map (value_at gf (through place)) (clouds picks) i 0 0 (omega (arith, long-clouds)))
    ∙ ap (λ xs. get_or xs i 0) (takes place)
    ∙ get_or-map (byte_at place) picks i pick 0 within
    ∙ ap (byte_at place) (sym here))
  where
    through : ℕ → List ℕ
    through place = polynomial_through gf (clouds picks) (column picks place)

    value : ℕ → ℕ
    value place = value_at gf (through place) pick.cloud

    byte_at : ℕ → Pick → ℕ
    byte_at place p = get_or p.bytes place 0

    long : length (map value (range_with_len 0 size)) ≡ size
    long = length-map-range_with_len value 0 size

    own : length pick.bytes ≡ size
    own = ap (λ (p : Pick). length p.bytes) here ∙ AreSized-each size picks sized i pick within

    long-clouds : length (clouds picks) ≡ length picks
    long-clouds = length-map picks cloud_of

    cloud_is : get_or (clouds picks) i 0 ≡ pick.cloud
    cloud_is = get_or-map cloud_of picks i pick 0 within ∙ ap cloud_of (sym here)

    takes : (place : ℕ) → map (value_at gf (through place)) (clouds picks) ≡ column picks place
    takes place =
        (only_polynomial (clouds picks) (column picks place) (clouds-elements picks in_range) (column-elements picks place in_range) (length-clouds picks place) different).interpolates.takes

-- ---- weights in two factors

moved : (a b p q : ℕ) → a < 256 → b < 256 → p < 256 → q < 256 → gf_product (gf_product (gf_product a b) p) q ≡ gf_product (gf_product a p) (gf_product b q)
moved a b p q ha hb hp hq =
    ap (λ x. gf_product x q)
    (product-assoc a b p ha hb hp ∙ ap (gf_product a) (product-comm b p hb hp) ∙ sym (product-assoc a p b ha hp hb))
    ∙ product-assoc (gf_product a p) b q (product-below a p ha hp) hb hq

choice-below : (same : Bool) (a b : ℕ) → a < 256 → b < 256 → cond same a b < 256
choice-below true a b p q = p
choice-below false a b p q = q

one_step : (same : Bool) (a b p q : ℕ) → a < 256 → b < 256 → p < 256 → q < 256 → cond same (gf_product a b) (gf_product (gf_product (gf_product a b) p) q) ≡ gf_product (cond same a (gf_product a p)) (cond same b (gf_product b q))
one_step true a b p q ha hb hp hq = refl
one_step false a b p q ha hb hp hq = moved a b p q ha hb hp hq

in_two : (places : List ℕ) (x t a b : ℕ) → AreElements IsElement places → x < 256 → t < 256 → a < 256 → b < 256 → fold (weight_step gf eqb x t) (gf_product a b) places ≡ gf_product (fold (raised_step gf eqb x t) a places) (fold (scale_step gf eqb x) b places)
in_two [] x t a b all hx ht ha hb = refl
in_two (m ∷ places) x t a b all hx ht ha hb =
    let p = gf_sum t m in
    let q = gf_inverse (gf_sum x m) in
    let hp : p < 256 = gf_is_field.sum_element t m ht all.0 in
    let hq : q < 256 = gf_is_field.inverse_element (gf_sum x m) (gf_is_field.sum_element x m hx all.0) in
    ap (λ w. fold (weight_step gf eqb x t) w places) (one_step (eqb m x) a b p q ha hb hp hq)
    ∙ in_two places x t (cond (eqb m x) a (gf_product a p)) (cond (eqb m x) b (gf_product b q)) all.1 hx ht
    (choice-below (eqb m x) a (gf_product a p) ha (product-below a p ha hp))
    (choice-below (eqb m x) b (gf_product b q) hb (product-below b q hb hq))

pub weight_in_two : (places : List ℕ) (x t : ℕ) → AreElements IsElement places → x < 256 → t < 256 → gf_product (raised gf eqb places x t) (scale gf eqb places x) ≡ weight gf eqb places x t
weight_in_two places x t all hx ht =
    sym (ap (λ w. fold (weight_step gf eqb x t) w places) (sym (product-one 1 (lit< tt)))
    ∙ in_two places x t 1 1 all hx ht (lit< tt) (lit< tt))

-- ---- what each pick counts for

element_at : (xs : List ℕ) (i : ℕ) → AreElements IsElement xs → get_or xs i 0 < 256
element_at [] i all = lit< tt
element_at (x ∷ xs) zero all = all.0
element_at (x ∷ xs) (suc i) all = element_at xs i all.1

pub product_is : (picks : List Pick) (scales : List ℕ) (i t raised_is scale_is factor : ℕ) (pick : Pick) → ArePoints picks scales → i < length picks → t < 256 → pick ≡ get_or picks i pick → raised_is ≡ raised gf eqb (clouds picks) pick.cloud t → scale_is ≡ get_or scales i scale_is → factor ≡ gf_product raised_is scale_is → factor ≡ weight gf eqb (clouds picks) (get_or (clouds picks) i 0) t
product_is picks scales i t raised_is scale_is factor pick points within ht here r s f =
    f
    ∙ ap (λ x. gf_product x scale_is) (r ∙ ap (λ c. raised gf eqb (clouds picks) c t) (sym cloud_is))
    ∙ ap (gf_product (raised gf eqb (clouds picks) cloud t)) (s ∙ ap (λ xs. get_or xs i scale_is) points.scales_are ∙ get_or-map (scale gf eqb (clouds picks)) (clouds picks) i 0 scale_is (omega (arith, length-map picks cloud_of)))
    ∙ weight_in_two (clouds picks) cloud t elements (element_at (clouds picks) i elements) ht
  where
    cloud : ℕ
    cloud = get_or (clouds picks) i 0

    elements : AreElements IsElement (clouds picks)
    elements = clouds-elements picks points.in_range

    cloud_is : cloud ≡ pick.cloud
    cloud_is = get_or-map cloud_of picks i pick 0 within ∙ ap cloud_of (sym here)

pub sized_row : (size : ℕ) (picks : List Pick) (i : ℕ) (row : List ℕ) → AreSized size picks → i < length picks → row ≡ get_or (map (λ pick. pick.bytes) picks) i [] → length row ≡ size
sized_row size picks i row sized within e =
    ap length (e ∙ get_or-map (λ (pick : Pick). pick.bytes) picks i nothing [] within) ∙ AreSized-each size picks sized i nothing within

pub map-more : (f : ℕ → ℕ) (picks : List Pick) (i y : ℕ) (pick : Pick) (xs ys : List ℕ) → i < length picks → pick ≡ get_or picks i pick → xs ≡ map f (clouds (take i picks)) → ys ≡ xs ++ y ∷ [] → y ≡ f pick.cloud → ys ≡ map f (clouds (take (i + 1) picks))
map-more f picks i y pick xs ys within here so_far push e =
    push
    ∙ ap (λ l. l ++ y ∷ []) so_far
    ∙ ap (λ z. map f (clouds (take i picks)) ++ z ∷ []) e
    ∙ sym (appended (take i picks))
    ∙ sym (ap (λ p. map f (clouds p)) (take_more picks i pick within ∙ ap (λ p. take i picks ++ p ∷ []) (sym here)))
  where
    appended : (some : List Pick) → map f (clouds (some ++ pick ∷ [])) ≡ map f (clouds some) ++ f pick.cloud ∷ []
    appended [] = refl
    appended (p ∷ some) = ap (λ l. f p.cloud ∷ l) (appended some)

pub four_rows : (size : ℕ) (picks : List Pick) (t a b c d : ℕ) (ra rb rc rd zeros : List ℕ) → length picks ≡ 4 → AreSized size picks → AreInRange picks → AreDifferent (clouds picks) → t < 256
    → ra ≡ get_or (map (λ pick. pick.bytes) picks) 0 [] → rb ≡ get_or (map (λ pick. pick.bytes) picks) 1 [] → rc ≡ get_or (map (λ pick. pick.bytes) picks) 2 [] → rd ≡ get_or (map (λ pick. pick.bytes) picks) 3 []
    → a ≡ weight gf eqb (clouds picks) (get_or (clouds picks) 0 0) t → b ≡ weight gf eqb (clouds picks) (get_or (clouds picks) 1 0) t → c ≡ weight gf eqb (clouds picks) (get_or (clouds picks) 2 0) t → d ≡ weight gf eqb (clouds picks) (get_or (clouds picks) 3 0) t
    → zeros ≡ replicate size 0 → row_sum d rd (row_sum c rc (row_sum b rb (row_sum a ra zeros))) ≡ row_at size picks t
four_rows size picks t a b c d ra rb rc rd zeros four sized in_range different ht ea eb ec ed fa fb fc fd none =
    rows_sum-next size picks t 3 d rd (row_sum c rc (row_sum b rb (row_sum a ra zeros))) (omega arith) ed fd
    (rows_sum-next size picks t 2 c rc (row_sum b rb (row_sum a ra zeros)) (omega arith) ec fc
    (rows_sum-next size picks t 1 b rb (row_sum a ra zeros) (omega arith) eb fb
    (rows_sum-next size picks t 0 a ra zeros (omega arith) ea fa none)))
    ∙ ap (rows_sum size picks t) (take_all 4 picks (omega arith))
    ∙ rows_sum-all size picks t ht sized in_range different
