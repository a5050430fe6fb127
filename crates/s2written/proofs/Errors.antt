-- An error of a call that bounds no work says the same under any bound of the work.
use Rattle.s2shape.specs.Reading.{Shape}
use Rattle.s2written.specs.Faults.{ErrorIs, Never}
use Rattle.s2written.specs.Geodesics.{GeodesicErrorIs}
use Rattle.s2written.specs.declared.fault.CoverError.{CoverError}
use Rattle.s2written.specs.declared.fault.CoverError.TheVariants as errors
use Rattle.s2written.specs.declared.fault.GeodesicError.{GeodesicError}
use Rattle.s2written.specs.declared.fault.GeodesicError.TheVariants as geodesic

pub error_of_any : (TakesMore : Shape → Type 0) (s : Shape) (e : CoverError) → ErrorIs Never s e
    → ErrorIs TakesMore s e
error_of_any TakesMore s errors.Memory h = h
error_of_any TakesMore s (errors.Fault f) h = absurd h
error_of_any TakesMore s (errors.NoInside k) h = h
error_of_any TakesMore s errors.NoMap h = h
error_of_any TakesMore s errors.TooManyCells h = absurd h

pub geodesic_error_of_any : (TakesMore : Shape → Type 0) (s : Shape) (e : GeodesicError) → GeodesicErrorIs Never s e
    → GeodesicErrorIs TakesMore s e
geodesic_error_of_any TakesMore s geodesic.Memory h = h
geodesic_error_of_any TakesMore s (geodesic.Fault f) h = absurd h
geodesic_error_of_any TakesMore s (geodesic.NoInside k) h = h
geodesic_error_of_any TakesMore s geodesic.NoMap h = h
geodesic_error_of_any TakesMore s (geodesic.LongEdge k) h = h
geodesic_error_of_any TakesMore s (geodesic.Spread k) h = h
geodesic_error_of_any TakesMore s geodesic.TooManyCells h = absurd h
