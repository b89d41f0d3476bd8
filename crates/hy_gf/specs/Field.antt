-- The laws of a field in which each element is its own negative.
use Rattle.std.specs.Prelude.{◌≡◌, ◌≢◌}

-- what can be computed in a field
pub record Operations (T : Type 0) : Type 0 where
  pub zero : T
  pub one : T
  pub sum : T → T → T
  pub product : T → T → T
  pub inverse : T → T

-- sums, products and inverses of elements are those of a field, in which an element and itself add up to zero;
-- what stands for the inverse of zero may be any element
pub record IsField {T : Type 0} (is_element : T → Type 0) (F : Operations T) : Type 0 where
  pub zero_element : is_element F.zero
  pub one_element : is_element F.one
  pub sum_element : (a b : T) → is_element a → is_element b → is_element (F.sum a b)
  pub product_element : (a b : T) → is_element a → is_element b → is_element (F.product a b)
  pub inverse_element : (a : T) → is_element a → is_element (F.inverse a)
  pub one_zero : F.one ≢ F.zero
  pub sum_comm : (a b : T) → is_element a → is_element b → F.sum a b ≡ F.sum b a
  pub sum_assoc : (a b c : T) → is_element a → is_element b → is_element c → F.sum (F.sum a b) c ≡ F.sum a (F.sum b c)
  pub sum_zero : (a : T) → is_element a → F.sum a F.zero ≡ a
  pub sum_self : (a : T) → is_element a → F.sum a a ≡ F.zero
  pub product_comm : (a b : T) → is_element a → is_element b → F.product a b ≡ F.product b a
  pub product_assoc : (a b c : T) → is_element a → is_element b → is_element c → F.product (F.product a b) c ≡ F.product a (F.product b c)
  pub product_one : (a : T) → is_element a → F.product a F.one ≡ a
  pub product_sum : (a b c : T) → is_element a → is_element b → is_element c → F.product a (F.sum b c) ≡ F.sum (F.product a b) (F.product a c)
  pub product_inverse : (a : T) → is_element a → a ≢ F.zero → F.product a (F.inverse a) ≡ F.one
