-- Formats of bytes as values, made of one another. This profile's own.
use Rattle.std.specs.Prelude.{◌^◌, ℕ, zero, suc, ℤ, pos, negsuc, Bool, true, ◌&&◌, ◌==◌, nat_lt, if◌then◌else◌, List, [], ◌∷◌, ◌++◌, length, take, drop, slice_index, Option, Some, None}
use Rattle.std.specs.Option.{option_map}
use Rattle.std.specs.List.{flat_map, list_all}
use Rattle.std.specs.Int.{w16, w32, w64, to_le_bytes, from_le_bytes, cast_signed, cast_unsigned}

-- A format of values: which of them have a spelling, the bytes that spell one, and what is read at the front of bytes: a
-- value, and the bytes behind it.
pub record Format (X : Type 0) : Type 0 where
  pub fits : X → Bool
  pub spell : X → List ℕ
  pub read : List ℕ → Option (X × List ℕ)

-- what is read next, from the bytes behind
abbrev pub then_read : {X Y : Type 0} → Option (X × List ℕ) → (X → List ℕ → Option Y) → Option Y
then_read None next = None
then_read (Some x) next = next x.0 x.1

-- a value below a limit in so many bytes
abbrev pub fixed : ℕ → ℕ → (ℕ → List ℕ) → (List ℕ → ℕ) → Format ℕ
fixed size limit to from =
    record {
      fits = λ x. nat_lt x limit;
      spell = to;
      read = λ bytes. if nat_lt (length bytes) size then None else Some (from (take size bytes), drop size bytes);
    }

-- numbers of one, two, four and eight bytes, the lowest byte first
unfoldable pub number8 : Format ℕ
number8 = fixed 1 256 (λ x. x ∷ []) (λ bytes. slice_index bytes 0)

unfoldable pub number16 : Format ℕ
number16 = fixed 2 (2 ^ 16) (to_le_bytes w16) (from_le_bytes w16)

unfoldable pub number32 : Format ℕ
number32 = fixed 4 (2 ^ 32) (to_le_bytes w32) (from_le_bytes w32)

unfoldable pub number64 : Format ℕ
number64 = fixed 8 (2 ^ 64) (to_le_bytes w64) (from_le_bytes w64)

abbrev pub is_signed32 : ℤ → Bool
is_signed32 (pos n) = nat_lt n (2 ^ 31)
is_signed32 (negsuc n) = nat_lt n (2 ^ 31)

-- a signed number of four bytes, in two's complement
unfoldable pub signed32 : Format ℤ
signed32 =
    record {
      fits = is_signed32;
      spell = λ z. number32.spell (cast_unsigned w32 z);
      read = λ bytes. then_read (number32.read bytes) (λ n rest. Some (cast_signed w32 n, rest));
    }

-- no bytes
abbrev pub nothing : Format (Unit {0})
nothing = record { fits = λ x. true; spell = λ x. []; read = λ bytes. Some (tt, bytes) }

-- so many bytes as they are
unfoldable pub read_block : ℕ → List ℕ → Option (List ℕ × List ℕ)
read_block size bytes = if nat_lt (length bytes) size then None else Some (take size bytes, drop size bytes)

abbrev pub block : ℕ → Format (List ℕ)
block size = record { fits = λ bytes. length bytes == size; spell = λ bytes. bytes; read = read_block size }

-- one value behind another
abbrev pub both : {X Y : Type 0} → Format X → Format Y → Format (X × Y)
both f g =
    record {
      fits = λ x. f.fits x.0 && g.fits x.1;
      spell = λ x. f.spell x.0 ++ g.spell x.1;
      read = λ bytes. then_read (f.read bytes) (λ x rest. then_read (g.read rest) (λ y behind. Some ((x, y), behind)));
    }

-- what is made of a value, as a record of its fields
abbrev pub made : {X Y : Type 0} → Format X → (X → Y) → (Y → X) → Format Y
made f to from =
    record {
      fits = λ y. f.fits (from y);
      spell = λ y. f.spell (from y);
      read = λ bytes. then_read (f.read bytes) (λ x rest. Some (to x, rest));
    }

-- what some values stand for, as the alternatives of an enum by their numbers
abbrev pub coded : {X Y : Type 0} → Format X → (X → Option Y) → (Y → X) → Format Y
coded f to from =
    record {
      fits = λ y. f.fits (from y);
      spell = λ y. f.spell (from y);
      read = λ bytes. then_read (f.read bytes) (λ x rest. option_map (λ y. (y, rest)) (to x));
    }

-- the values that pass a test
abbrev pub restricted : {X : Type 0} → Format X → (X → Bool) → Format X
restricted f test =
    record {
      fits = λ x. f.fits x && test x;
      spell = f.spell;
      read = λ bytes. then_read (f.read bytes) (λ x rest. if test x then Some (x, rest) else None);
    }

-- whether each value comes before the next
abbrev pub ascends : {X : Type 0} → (X → X → Bool) → List X → Bool
ascends before [] = true
ascends before (x ∷ []) = true
ascends before (x ∷ y ∷ xs) = before x y && ascends before (y ∷ xs)

-- the lists of a format that ascend
abbrev pub ascending : {X : Type 0} → (X → X → Bool) → Format (List X) → Format (List X)
ascending before f = restricted f (ascends before)

-- a byte 0, or a byte 1 and the value
abbrev pub spelled_option : {X : Type 0} → Format X → Option X → List ℕ
spelled_option f None = 0 ∷ []
spelled_option f (Some x) = 1 ∷ f.spell x

abbrev pub fits_option : {X : Type 0} → Format X → Option X → Bool
fits_option f None = true
fits_option f (Some x) = f.fits x

abbrev pub optional : {X : Type 0} → Format X → Format (Option X)
optional f =
    record {
      fits = fits_option f;
      spell = spelled_option f;
      read = λ bytes. then_read (number8.read bytes) (λ tag rest.
          if tag == 0 then Some (None, rest) else if tag == 1 then then_read (f.read rest) (λ x behind. Some (Some x, behind)) else None);
    }

-- so many values, read one after another
abbrev pub read_many : {X : Type 0} → Format X → ℕ → List ℕ → Option (List X × List ℕ)
read_many f zero bytes = Some ([], bytes)
read_many f (suc n) bytes =
    then_read (f.read bytes) (λ x rest. then_read (read_many f n rest) (λ xs behind. Some (x ∷ xs, behind)))

abbrev pub many : {X : Type 0} → Format X → ℕ → Format (List X)
many f n =
    record {
      fits = λ xs. (length xs == n) && list_all f.fits xs;
      spell = flat_map f.spell;
      read = read_many f n;
    }

-- a size, and a value of that size
abbrev pub counted : {X : Type 0} → Format ℕ → (ℕ → Format X) → (X → ℕ) → Format X
counted count sized size =
    record {
      fits = λ x. count.fits (size x) && (sized (size x)).fits x;
      spell = λ x. count.spell (size x) ++ (sized (size x)).spell x;
      read = λ bytes. then_read (count.read bytes) (λ n rest. (sized n).read rest);
    }

-- a number of values, and those
abbrev pub listed : {X : Type 0} → Format ℕ → Format X → Format (List X)
listed count f = counted count (many f) length

-- a length of four bytes, and so many bytes
abbrev pub text : Format (List ℕ)
text = counted number32 block length
