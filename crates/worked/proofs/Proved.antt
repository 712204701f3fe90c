-- The starred numbers hold, by computation. Assumes nothing.
use mathlib.Core.Path.{refl}
use Rattle.codes.specs.Code.{least_from, exponent, code_of, value_of, band_code, band_value, sum_code, sum_value}
use Rattle.bands.specs.Band.{greatest_to, octave, band_of}
use Rattle.registers.specs.Store.{high_stored, low_stored, stored_at}
use Rattle.worked.specs.Claims.{Starred}

pub starred : Starred
unfolding least_from exponent code_of value_of band_code band_value sum_code sum_value greatest_to octave band_of high_stored low_stored stored_at
starred =
    record {
      write-own = refl;
      write-all = refl;
      write-some = refl;
      write-other = refl;
      band-7 = refl;
      band-8 = refl;
      band-15 = refl;
      band-15-value = refl;
      band-max = refl;
      band-max-value = refl;
      sum-1024 = refl;
      sum-max = refl;
      sum-unreduced = refl;
      sum_over = refl;
      bin-512 = refl;
    }
