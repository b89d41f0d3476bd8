-- A head has no more fields than bytes.
use Rattle.std.proofs.Common.{◌≤◌, List, [], ◌∷◌, length, arith, length-append, zero-le}
use Rattle.std.specs.List.{flat_map}
use Rattle.httparse.specs.Grammar.{Field, print_field, RequestHead, print_request, ResponseHead, print_response}

few : (fs : List Field) → length fs ≤ length (flat_map print_field fs)
few [] = zero-le
few (f ∷ fs) = simp length-append (omega (arith, few fs))

pub request_fields : (h : RequestHead) → length h.fields ≤ length (print_request h)
unfolding print_request
request_fields h = simp length-append (omega (arith, few h.fields))

pub response_fields : (h : ResponseHead) → length h.fields ≤ length (print_response h)
unfolding print_response
response_fields h = simp length-append (omega (arith, few h.fields))
