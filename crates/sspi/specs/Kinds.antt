-- The numbers of the kinds of error, and the kind of a number.
use Rattle.std.specs.Prelude.{ℕ, List, [], ◌∷◌, Option, ◌==◌}
use Rattle.std.specs.List.{find}
use Rattle.sspi.specs.declared.error_kind.ErrorKind.{ErrorKind}
use Rattle.sspi.specs.declared.error_kind.ErrorKind.TheVariants.{Unknown, InsufficientMemory, InvalidHandle, UnsupportedFunction, TargetUnknown, InternalError, SecurityPackageNotFound, NotOwned, CannotInstall, InvalidToken, CannotPack, OperationNotSupported, NoImpersonation, LogonDenied, UnknownCredentials, NoCredentials, MessageAltered, OutOfSequence, NoAuthenticatingAuthority, BadPackageId, ContextExpired, IncompleteMessage, IncompleteCredentials, BufferTooSmall, WrongPrincipalName, TimeSkew, UntrustedRoot, IllegalMessage, CertificateUnknown, CertificateExpired, EncryptFailure, DecryptFailure, AlgorithmMismatch, SecurityQosFailed, UnfinishedContextDeleted, NoTgtReply, NoIpAddress, WrongCredentialHandle, CryptoSystemInvalid, MaxReferralsExceeded, MustBeKdc, StrongCryptoNotSupported, TooManyPrincipals, NoPaData, PkInitNameMismatch, SmartCardLogonRequired, ShutdownInProgress, KdcInvalidRequest, KdcUnknownEType, KdcUnknownEType2, UnsupportedPreAuth, DelegationRequired, BadBindings, MultipleAccounts, NoKerbKey, CertWrongUsage, DowngradeDetected, SmartCardCertificateRevoked, IssuingCAUntrusted, RevocationOffline, PkInitClientFailure, SmartCardCertExpired, NoS4uProtSupport, CrossRealmDelegationFailure, RevocationOfflineKdc, IssuingCaUntrustedKdc, KdcCertExpired, KdcCertRevoked, InvalidParameter, DelegationPolicy, PolicyNtlmOnly, NoContext, Pku2uCertFailure, MutualAuthFailed, OnlyHttpsAllowed, ApplicationProtocolMismatch}

-- the number of each kind
abbrev pub kind_number : ErrorKind → ℕ
kind_number Unknown = 0
kind_number InsufficientMemory = 0x80090300
kind_number InvalidHandle = 0x80090301
kind_number UnsupportedFunction = 0x80090302
kind_number TargetUnknown = 0x80090303
kind_number InternalError = 0x80090304
kind_number SecurityPackageNotFound = 0x80090305
kind_number NotOwned = 0x80090306
kind_number CannotInstall = 0x80090307
kind_number InvalidToken = 0x80090308
kind_number CannotPack = 0x80090309
kind_number OperationNotSupported = 0x8009030a
kind_number NoImpersonation = 0x8009030b
kind_number LogonDenied = 0x8009030c
kind_number UnknownCredentials = 0x8009030d
kind_number NoCredentials = 0x8009030e
kind_number MessageAltered = 0x8009030f
kind_number OutOfSequence = 0x80090310
kind_number NoAuthenticatingAuthority = 0x80090311
kind_number BadPackageId = 0x80090316
kind_number ContextExpired = 0x80090317
kind_number IncompleteMessage = 0x80090318
kind_number IncompleteCredentials = 0x80090320
kind_number BufferTooSmall = 0x80090321
kind_number WrongPrincipalName = 0x80090322
kind_number TimeSkew = 0x80090324
kind_number UntrustedRoot = 0x80090325
kind_number IllegalMessage = 0x80090326
kind_number CertificateUnknown = 0x80090327
kind_number CertificateExpired = 0x80090328
kind_number EncryptFailure = 0x80090329
kind_number DecryptFailure = 0x80090330
kind_number AlgorithmMismatch = 0x80090331
kind_number SecurityQosFailed = 0x80090332
kind_number UnfinishedContextDeleted = 0x80090333
kind_number NoTgtReply = 0x80090334
kind_number NoIpAddress = 0x80090335
kind_number WrongCredentialHandle = 0x80090336
kind_number CryptoSystemInvalid = 0x80090337
kind_number MaxReferralsExceeded = 0x80090338
kind_number MustBeKdc = 0x80090339
kind_number StrongCryptoNotSupported = 0x8009033a
kind_number TooManyPrincipals = 0x8009033b
kind_number NoPaData = 0x8009033c
kind_number PkInitNameMismatch = 0x8009033d
kind_number SmartCardLogonRequired = 0x8009033e
kind_number ShutdownInProgress = 0x8009033f
kind_number KdcInvalidRequest = 0x80090340
kind_number KdcUnknownEType = 0x80090341
kind_number KdcUnknownEType2 = 0x80090342
kind_number UnsupportedPreAuth = 0x80090343
kind_number DelegationRequired = 0x80090345
kind_number BadBindings = 0x80090346
kind_number MultipleAccounts = 0x80090347
kind_number NoKerbKey = 0x80090348
kind_number CertWrongUsage = 0x80090349
kind_number DowngradeDetected = 0x80090350
kind_number SmartCardCertificateRevoked = 0x80090351
kind_number IssuingCAUntrusted = 0x80090352
kind_number RevocationOffline = 0x80090353
kind_number PkInitClientFailure = 0x80090354
kind_number SmartCardCertExpired = 0x80090355
kind_number NoS4uProtSupport = 0x80090356
kind_number CrossRealmDelegationFailure = 0x80090357
kind_number RevocationOfflineKdc = 0x80090358
kind_number IssuingCaUntrustedKdc = 0x80090359
kind_number KdcCertExpired = 0x8009035a
kind_number KdcCertRevoked = 0x8009035b
kind_number InvalidParameter = 0x8009035d
kind_number DelegationPolicy = 0x8009035e
kind_number PolicyNtlmOnly = 0x8009035f
kind_number NoContext = 0x80090361
kind_number Pku2uCertFailure = 0x80090362
kind_number MutualAuthFailed = 0x80090363
kind_number OnlyHttpsAllowed = 0x80090365
kind_number ApplicationProtocolMismatch = 0x80090367

-- every kind, in the order of the declaration
abbrev pub kinds : List ErrorKind
kinds = Unknown ∷ InsufficientMemory ∷ InvalidHandle ∷ UnsupportedFunction ∷ TargetUnknown ∷ InternalError ∷ SecurityPackageNotFound ∷ NotOwned ∷ CannotInstall ∷ InvalidToken ∷ CannotPack ∷ OperationNotSupported ∷ NoImpersonation ∷ LogonDenied ∷ UnknownCredentials ∷ NoCredentials ∷ MessageAltered ∷ OutOfSequence ∷ NoAuthenticatingAuthority ∷ BadPackageId ∷ ContextExpired ∷ IncompleteMessage ∷ IncompleteCredentials ∷ BufferTooSmall ∷ WrongPrincipalName ∷ TimeSkew ∷ UntrustedRoot ∷ IllegalMessage ∷ CertificateUnknown ∷ CertificateExpired ∷ EncryptFailure ∷ DecryptFailure ∷ AlgorithmMismatch ∷ SecurityQosFailed ∷ UnfinishedContextDeleted ∷ NoTgtReply ∷ NoIpAddress ∷ WrongCredentialHandle ∷ CryptoSystemInvalid ∷ MaxReferralsExceeded ∷ MustBeKdc ∷ StrongCryptoNotSupported ∷ TooManyPrincipals ∷ NoPaData ∷ PkInitNameMismatch ∷ SmartCardLogonRequired ∷ ShutdownInProgress ∷ KdcInvalidRequest ∷ KdcUnknownEType ∷ KdcUnknownEType2 ∷ UnsupportedPreAuth ∷ DelegationRequired ∷ BadBindings ∷ MultipleAccounts ∷ NoKerbKey ∷ CertWrongUsage ∷ DowngradeDetected ∷ SmartCardCertificateRevoked ∷ IssuingCAUntrusted ∷ RevocationOffline ∷ PkInitClientFailure ∷ SmartCardCertExpired ∷ NoS4uProtSupport ∷ CrossRealmDelegationFailure ∷ RevocationOfflineKdc ∷ IssuingCaUntrustedKdc ∷ KdcCertExpired ∷ KdcCertRevoked ∷ InvalidParameter ∷ DelegationPolicy ∷ PolicyNtlmOnly ∷ NoContext ∷ Pku2uCertFailure ∷ MutualAuthFailed ∷ OnlyHttpsAllowed ∷ ApplicationProtocolMismatch ∷ []

-- the kind of the number n, if there is one
unfoldable pub kind_of : ℕ → Option ErrorKind
kind_of n = find (λ k. kind_number k == n) kinds
